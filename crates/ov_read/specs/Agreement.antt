-- The numbers of a dataset that its lists and segments must bear out.
--     list_of s vid, rows_of s vid      the extent of a version's list, and how many rows the version has
--     records_after s vid      how many records the dataset had directly after the version
--     part_of s vid, segments_of s vid      the partition that serves a version, and its segments
--     Agrees s vid rids      a version's list, as read, agrees
--     AreTogether contents all, PartAgrees part last contents      so do the segments of a partition
use Rattle.std.specs.Prelude.{◌≡◌, ◌≤◌, ℕ, ◌-◌, Bool, cond, List, [], length, map, take, slice_index_or, Option, Some, None}
use Rattle.std.specs.List.{All, find, list_any, sum_by, count_by}
use Rattle.ov_host.specs.declared.area.Extent.{Extent}
use Rattle.ov_member.specs.Rids.{has, AreRids}
use Rattle.ov_catalog.specs.Numbers.{PartNumbers, SetNumbers}

-- a dataset, in numbers
abbrev pub Numbers : Type 0
Numbers = SetNumbers Extent Extent

abbrev pub nowhere : Extent
nowhere = record { page = 0; bytes = 0 }

abbrev pub IsThere : Numbers → ℕ → Type 0
IsThere s vid = (1 ≤ vid) × (vid ≤ length s.versions)

abbrev pub list_of : Numbers → ℕ → Extent
list_of s vid = slice_index_or (map (λ v. v.list) s.versions) (vid - 1) nowhere

abbrev pub rows_of : Numbers → ℕ → ℕ
rows_of s vid = slice_index_or (map (λ v. v.rows) s.versions) (vid - 1) 0

abbrev pub records_after : Numbers → ℕ → ℕ
records_after s vid = sum_by (λ v. v.fresh) (take vid s.versions)

-- so many rids, and none over the last one
pub record IsBorneOut (count last : ℕ) (rids : List ℕ) : Type 0 where
  pub count_is : length rids ≡ count
  pub below : All (λ rid. rid ≤ last) rids

abbrev pub Agrees : Numbers → ℕ → List ℕ → Type 0
Agrees s vid rids = IsBorneOut (rows_of s vid) (records_after s vid) rids

-- ---- partitions

abbrev pub serves : ℕ → PartNumbers Extent → Bool
serves vid part = has part.versions vid

abbrev pub is_served : Numbers → ℕ → Bool
is_served s vid = list_any (serves vid) s.parts

abbrev pub segments_in : Option (PartNumbers Extent) → List Extent
segments_in None = []
segments_in (Some part) = part.segments

abbrev pub segments_of : Numbers → ℕ → List Extent
segments_of s vid = segments_in (find (serves vid) s.parts)

-- in how many of these sets a rid is
abbrev pub times : List (List ℕ) → ℕ → ℕ
times contents rid = count_by (λ rids. has rids rid) contents

-- all rids of these sets, of which no two share one
pub record AreTogether (contents : List (List ℕ)) (all : List ℕ) : Type 0 where
  pub set : AreRids all
  pub each : (rid : ℕ) → times contents rid ≡ cond (has all rid) 1 0

-- of the sets of rids that its segments have, where the dataset has so many records
pub record PartAgrees (records last : ℕ) (contents : List (List ℕ)) : Type 0 where
  pub all : List ℕ
  pub together : AreTogether contents all
  pub borne_out : IsBorneOut records last all
