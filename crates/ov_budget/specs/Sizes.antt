-- Parts with their sizes, as they are found.
--     IsTogether lists vids rids      the rids of these versions together
--     IsSized lists one      its size is the number of its versions' rids together
--     sizes_said sized      of each part its versions and its size
use Rattle.std.specs.Prelude.{◌≡◌, ◌≤◌, ℕ, List, [], ◌∷◌, length, map}
use Rattle.std.specs.List.{list_any}
use Rattle.ov_member.specs.Rids.{AreRids, has}
use Rattle.ov_budget.specs.declared.sizes.Sized.{Sized}
use Rattle.ov_budget.specs.Tables.{list_at, rids_in}

-- these are versions, of so many
abbrev pub AreVids : ℕ → List ℕ → Type 0
AreVids count [] = Unit {0}
AreVids count (vid ∷ vids) = ((1 ≤ vid) × (vid ≤ count)) × AreVids count vids

-- what is listed of each of these versions is a set of rids
abbrev pub AreSets : List (List ℕ) → List ℕ → Type 0
AreSets lists [] = Unit {0}
AreSets lists (vid ∷ vids) = AreRids (list_at lists vid) × AreSets lists vids

-- they are the rids of these versions together, ascending, none twice
pub record IsTogether (lists : List (List ℕ)) (vids rids : List ℕ) : Type 0 where
  pub sets : AreSets lists vids
  pub set : AreRids rids
  pub together : (rid : ℕ) → has rids rid ≡ list_any (λ vid. has (list_at lists vid) rid) vids

abbrev pub part_of : Sized → List ℕ
part_of one = one.part.items

abbrev pub IsSized : List (List ℕ) → Sized → Type 0
IsSized lists one = one.size ≡ length (rids_in lists one.part.items)

abbrev pub sizes_said : List Sized → List (ℕ × ℕ)
sizes_said sized = map (λ one. (length one.part.items, one.size)) sized
