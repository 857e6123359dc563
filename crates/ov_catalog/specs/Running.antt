-- What is true of a dataset's plan while it runs, so that each of its targets can become a partition when its turn comes.
--     IsRunning count parts plan      of a dataset of so many versions in these partitions
--     left_of plan      the targets that weren't flipped yet
use Rattle.std.specs.Prelude.{◌≡◌, ℕ, ◌+◌, ◌^◌, ◌≤◌, ◌<◌, Bool, true, false, List, [], ◌∷◌, ◌++◌, length, drop, slice_index_or, Option, Some, None}
use Rattle.std.specs.List.{list_any}
use Rattle.ov_layout.specs.declared.part.Part.{Part}
use Rattle.ov_layout.specs.Flips.{AreBelow}
use Rattle.ov_layout.specs.Parts.{has, Ascend, part_numbered}
use Rattle.ov_catalog.specs.declared.cvd.Plan.{Plan}
use Rattle.ov_catalog.specs.declared.cvd.Target.{Target}

abbrev pub targets_left : Plan → List Target
targets_left plan = drop plan.at plan.targets

abbrev pub left_of : Option Plan → List Target
left_of None = []
left_of (Some plan) = targets_left plan

abbrev pub HasCurrent : Plan → Type 0
HasCurrent plan = plan.at < length plan.targets

abbrev pub no_target : Target
no_target = record { versions = []; size = 0; source = 0; kept = []; kept_records = 0 }

abbrev pub current : Plan → Target
current plan = slice_index_or plan.targets plan.at no_target

-- whether a version is in one of these targets
abbrev pub is_in_target : List Target → ℕ → Bool
is_in_target targets vid = list_any (λ t. has t.versions vid) targets

-- versions from 1 to count
abbrev pub AreThere : ℕ → List ℕ → Type 0
AreThere count vids = (vid : ℕ) → has vids vid ≡ true → (1 ≤ vid) × (vid ≤ count)

-- its versions are there and ascend, as do the places of what it keeps
pub record IsTarget (count : ℕ) (t : Target) : Type 0 where
  pub some : 0 < length t.versions
  pub ascend : Ascend 0 t.versions
  pub there : AreThere count t.versions
  pub kept : Ascend 0 t.kept
  pub few : t.size < 2 ^ 32

-- The partition whose segments it keeps: the places are among them, some version of the target is there, and all versions there are
-- the target's or in `before`, the versions of the targets that come before it. So the target finds it as it was and empties it.
pub record IsSource (before : List ℕ) (t : Target) (part : Part) : Type 0 where
  pub within : AreBelow (length part.segments) t.kept
  pub shared : ℕ
  pub of_target : has t.versions shared ≡ true
  pub of_part : has part.versions shared ≡ true
  pub emptied : (vid : ℕ) → has part.versions vid ≡ true → has (before ++ t.versions) vid ≡ true

-- no source keeps nothing
abbrev pub IsKept : List ℕ → Target → Option Part → Type 0
IsKept before t None = (t.source ≡ 0) × (t.kept ≡ [])
IsKept before t (Some part) = IsSource before t part

abbrev pub AreTargets : ℕ → List Part → List ℕ → List Target → Type 0
AreTargets count parts before [] = Unit {0}
AreTargets count parts before (t ∷ ts) =
    IsTarget count t
    × IsKept before t (part_numbered t.source parts)
    × ((vid : ℕ) → has t.versions vid ≡ true → is_in_target ts vid ≡ false)
    × AreTargets count parts (before ++ t.versions) ts

pub record IsRunning (count : ℕ) (parts : List Part) (plan : Plan) : Type 0 where
  pub at : HasCurrent plan
  pub few : length plan.targets ≤ 65535
  pub targets : AreTargets count parts [] (targets_left plan)

abbrev pub IsPlanned : ℕ → List Part → Option Plan → Type 0
IsPlanned count parts None = Unit {0}
IsPlanned count parts (Some plan) = IsRunning count parts plan

-- the plan at its next target; none after the last one
pub record IsNext (plan next : Plan) : Type 0 where
  pub targets_are : next.targets ≡ plan.targets
  pub at_is : next.at ≡ plan.at + 1
  pub within : plan.at + 1 < length plan.targets

abbrev pub IsNextOf : Plan → Option Plan → Type 0
IsNextOf plan None = length plan.targets ≤ plan.at + 1
IsNextOf plan (Some next) = IsNext plan next
