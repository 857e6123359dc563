-- The partitions of a dataset, as numbers.
--     Partitions      what contracts see of a layout
--     AreParts parts next      what is true of every layout's partitions
--     part_with vid parts, part_numbered id parts      the partition that serves a version; the one with a number
--     stored_of parts, cost_of parts      the sums over partitions
--     pages_for vid parts      the pages of the partition that serves a version
use Rattle.std.specs.Prelude.{◌≡◌, ℕ, suc, ◌*◌, ◌<◌, ◌≤◌, Bool, true, ◌==◌, List, [], ◌∷◌, length, Option, None, Some, find}
use Rattle.std.specs.List.{list_any, sum_by, count_by}
use Rattle.ov_host.specs.declared.area.Extent.{Extent}
use Rattle.ov_host.specs.Extent.{pages_of}
use Rattle.ov_layout.specs.declared.part.Part.{Part}
use Rattle.ov_layout.specs.declared.room.Room.{Room}

-- the partitions in the order of their numbers, the number that the next one gets, and the room for one change
pub record Partitions : Type 0 where
  pub parts : List Part
  pub next : ℕ
  pub room : Room

-- whether a vid is among vids
abbrev pub has : List ℕ → ℕ → Bool
has vids vid = list_any (λ v. v == vid) vids

abbrev pub serves : ℕ → Part → Bool
serves vid part = has part.versions vid

-- the partition that serves a version
abbrev pub part_with : ℕ → List Part → Option Part
part_with vid parts = find (serves vid) parts

-- whether a version is in some partition
abbrev pub is_placed : List Part → ℕ → Bool
is_placed parts vid = list_any (serves vid) parts

-- in how many partitions a version is
abbrev pub times_placed : ℕ → List Part → ℕ
times_placed vid parts = count_by (serves vid) parts

-- the partition with a number
abbrev pub part_numbered : ℕ → List Part → Option Part
part_numbered id parts = find (λ part. part.id == id) parts

-- the number of records of a partition; 0 where there is none
abbrev pub records_in : Option Part → ℕ
records_in None = 0
records_in (Some part) = part.records

abbrev pub records_at : ℕ → List Part → ℕ
records_at id parts = records_in (part_numbered id parts)

-- whether a partition has a number
abbrev pub is_number : List Part → ℕ → Bool
is_number parts id = list_any (λ part. part.id == id) parts

-- the sum of the partitions' records
abbrev pub stored_of : List Part → ℕ
stored_of parts = sum_by (λ part. part.records) parts

-- the sum over partitions of their versions times their records
abbrev pub cost_of : List Part → ℕ
cost_of parts = sum_by (λ part. length part.versions * part.records) parts

-- the pages of extents together
abbrev pub pages_in : List Extent → ℕ
pages_in extents = sum_by pages_of extents

-- the segments of a partition; none where there is no partition
abbrev pub segments_in : Option Part → List Extent
segments_in None = []
segments_in (Some part) = part.segments

-- the segments of the partition that serves a version
abbrev pub segments_for : ℕ → List Part → List Extent
segments_for vid parts = segments_in (part_with vid parts)

abbrev pub pages_for : ℕ → List Part → ℕ
pages_for vid parts = pages_in (segments_for vid parts)

-- the numbers ascend strictly, the first from least on
abbrev pub Ascend : ℕ → List ℕ → Type 0
Ascend least [] = Unit {0}
Ascend least (n ∷ ns) = (least ≤ n) × Ascend (suc n) ns

-- a partition's versions ascend, it has some, and they are among those whose records it holds, which ascend
pub record IsPart (part : Part) : Type 0 where
  pub versions : Ascend 0 part.versions
  pub some : 0 < length part.versions
  pub holds : Ascend 0 part.holds
  pub held : (vid : ℕ) → has part.versions vid ≡ true → has part.holds vid ≡ true

-- the partitions are sound, and their numbers ascend strictly from least on and below next
abbrev pub ArePartsFrom : ℕ → ℕ → List Part → Type 0
ArePartsFrom least next [] = least ≤ next
ArePartsFrom least next (part ∷ parts) = (least ≤ part.id) × IsPart part × ArePartsFrom (suc part.id) next parts

-- the partitions of a dataset whose next one gets the number next: each version is in one at most
pub record AreParts (parts : List Part) (next : ℕ) : Type 0 where
  pub sound : ArePartsFrom 1 next parts
  pub once : (vid : ℕ) → times_placed vid parts ≤ 1
