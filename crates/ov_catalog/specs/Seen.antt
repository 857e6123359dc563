-- What a plan and a Whole ask of targets and partitions, where marks say which versions others have.
--     is_source_by seen parts t      the source fits
--     is_target_by seen count records t, are_sources_by parts left targets      what a Whole asks of a target, and of those that are left
--     IsOnce answer seen parts      an answer to whether no version is in two partitions
--     AscendWithin limit parts      partitions to be searched, whose versions can be marked
use Rattle.std.specs.Prelude.{◌≡◌, ℕ, ◌<◌, ◌≤◌, Bool, true, false, not, ◌&&◌, ◌||◌, ◌==◌, nat_le, if◌then◌else◌, List, length, slice_index_or, Option, Some, None, All}
use Rattle.std.specs.List.{list_all, list_any}
use Rattle.ov_layout.specs.declared.part.Part.{Part}
use Rattle.ov_layout.specs.Index.{numbers_of}
use Rattle.ov_layout.specs.Leaving.{VersionsAscend}
use Rattle.ov_layout.specs.Parts.{Ascend, is_placed, times_placed}
use Rattle.ov_catalog.specs.Numbers.{PartNumbers, TargetNumbers}
use Rattle.ov_catalog.specs.Planning.{ascend_from, are_below, meets}
use Rattle.ov_catalog.specs.Testing.{is_same, part_numbered}
use Rattle.ov_catalog.specs.Wholes.{are_there}

abbrev pub is_kept_by : {S : Type 0} → (ℕ → Bool) → TargetNumbers → Option (PartNumbers S) → Bool
is_kept_by seen t None = false
is_kept_by seen t (Some part) =
    (meets t.versions part.versions && not (list_any seen part.versions))
    && ((ascend_from 0 t.kept && are_below (length part.segments) t.kept)
    && (is_same (length t.kept == 0) (t.kept_records == 0) && nat_le t.kept_records t.size))

abbrev pub is_source_by : {S : Type 0} → (ℕ → Bool) → List (PartNumbers S) → TargetNumbers → Bool
is_source_by seen parts t =
    if t.source == 0 then length t.kept == 0 && t.kept_records == 0 else is_kept_by seen t (part_numbered parts t.source)

abbrev pub is_target_by : (ℕ → Bool) → ℕ → ℕ → TargetNumbers → Bool
is_target_by seen count records t =
    (not (length t.versions == 0) && are_there count t.versions) && (not (list_any seen t.versions) && nat_le t.size records)

-- `left` marks the versions of all of them
abbrev pub serves_only_by : {S : Type 0} → (ℕ → Bool) → ℕ → PartNumbers S → Bool
serves_only_by left id part = not (part.id == id) || list_all left part.versions

-- `later` marks those of later targets
abbrev pub may_leave_by : {S : Type 0} → (later left : ℕ → Bool) → List (PartNumbers S) → TargetNumbers → Bool
may_leave_by later left parts t = is_source_by later parts t && list_all (serves_only_by left t.source) parts

-- where none is, each version that is in one is marked
abbrev pub IsOnce : Bool → List Bool → List Part → Type 0
IsOnce true seen parts = ((vid : ℕ) → slice_index_or seen vid false ≡ is_placed parts vid) × ((vid : ℕ) → times_placed vid parts ≤ 1)
IsOnce false seen parts = (vid : ℕ) × (2 ≤ times_placed vid parts)

-- their numbers ascend, as do the versions of each, which are below a limit
pub record AscendWithin (limit : ℕ) (parts : List Part) : Type 0 where
  pub numbers : Ascend 0 (numbers_of parts)
  pub versions : All VersionsAscend parts
  pub below : (vid : ℕ) → is_placed parts vid ≡ true → vid < limit
