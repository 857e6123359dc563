-- The relatives of a version: its parents, those that it descends from, and those that descend from it. A version is none of its
-- own relatives.
--     relatives cvd kind vid      ascending
use Rattle.std.specs.Prelude.{ℕ, zero, suc, ◌-◌, Bool, false, ◌||◌, ◌==◌, List, [], length, map, filter, slice_index_or}
use Rattle.std.specs.List.{list_any}
use Rattle.ov_model.specs.Book.{Version, Cvd}
use Rattle.ov_model.specs.Records.{counted}
use Rattle.ov_model.specs.declared.query.LineageKind.{LineageKind}
use Rattle.ov_model.specs.declared.query.LineageKind.TheVariants.{Parents, Ancestors, Descendants}

abbrev pub parents_at : List Version → ℕ → List ℕ
parents_at versions vid = slice_index_or (map (λ v. v.parents) versions) (vid - 1) []

abbrev pub is_parent : List Version → ℕ → ℕ → Bool
is_parent versions vid child = list_any (λ p. p == vid) (parents_at versions child)

-- whether a version is a parent of another one, or a parent's parent, and so on in so many steps; a parent's number is lower, so
-- that there are fewer steps than the other one's number
abbrev pub is_above_in : ℕ → List Version → ℕ → ℕ → Bool
is_above_in zero versions vid child = false
is_above_in (suc steps) versions vid child =
    list_any (λ p. p == vid || is_above_in steps versions vid p) (parents_at versions child)

abbrev pub is_ancestor : List Version → ℕ → ℕ → Bool
is_ancestor versions vid child = is_above_in child versions vid child

abbrev pub is_relative : List Version → LineageKind → ℕ → ℕ → Bool
is_relative versions Parents vid other = is_parent versions other vid
is_relative versions Ancestors vid other = is_ancestor versions other vid
is_relative versions Descendants vid other = is_ancestor versions vid other

abbrev pub relatives : Cvd → LineageKind → ℕ → List ℕ
relatives cvd kind vid = filter (is_relative cvd.versions kind vid) (counted 1 (length cvd.versions))
