-- The relatives of a version by the parents of the versions alone, a list for each.
--     versions_with parents      versions with these parents, without rows
--     relatives_by parents kind vid      `relatives` of a dataset with these versions
--     AreParents parents      what holds of the parents of a dataset's versions
use Rattle.std.specs.Prelude.{◌≤◌, ◌<◌, ℕ, List, [], length, map, filter, slice_index_or, Vec}
use Rattle.std.specs.declared.alloc.Global.{Global}
use Rattle.ov_model.specs.Book.{Version}
use Rattle.ov_model.specs.Descent.{AreEarlier}
use Rattle.ov_model.specs.Known.{version_like}
use Rattle.ov_model.specs.Lineages.{is_relative}
use Rattle.ov_model.specs.Records.{counted}
use Rattle.ov_model.specs.declared.query.LineageKind.{LineageKind}

abbrev pub lists_of : List (Vec ℕ Global) → List (List ℕ)
lists_of lists = map (λ list. list.items) lists

abbrev pub versions_with : List (List ℕ) → List Version
versions_with parents = map version_like parents

abbrev pub relatives_by : List (List ℕ) → LineageKind → ℕ → List ℕ
relatives_by parents kind vid = filter (is_relative (versions_with parents) kind vid) (counted 1 (length (versions_with parents)))

-- parents are versions before their own, so that the first version has none; each later one has some
pub record AreParents (parents : List (List ℕ)) : Type 0 where
  pub few : length parents ≤ 65535
  pub earlier : AreEarlier 1 (versions_with parents)
  pub later : (k : ℕ) → 0 < k → k < length parents → 0 < length (slice_index_or parents k [])
