-- Partitions while a plan runs.
--     IsOldOrNew d      all versions of a partition wait to be moved, or none does and it keeps the records of its versions alone
--     IsTight part      it keeps the records of its versions alone
use Rattle.std.specs.Prelude.{◌≡◌, ◌≤◌, ◌<◌, ◌⊎◌, ℕ, true, false, List, [], ◌∷◌, length, Option, Some, None}
use Rattle.ov_model.specs.Lists.{IsIn}
use Rattle.ov_model.specs.Placed.{times}
use Rattle.ov_model.specs.World.{Part, Target, Plan, Dataset, is_unmoved}
use Rattle.law_partitions.specs.Pieces.{target_times}

-- A running plan has a target that waits. Each of its targets has a version, and none has one that another has.
pub record IsRunning (plan : Plan) : Type 0 where
  pub waits : plan.at < length plan.targets
  pub some : (t : Target) → IsIn plan.targets t → 0 < length t.versions
  pub once : (vid : ℕ) → target_times plan.targets vid ≤ 1

abbrev pub Runs : Option Plan → Type 0
Runs None = Unit {0}
Runs (Some plan) = IsRunning plan

abbrev pub IsTight : Part → Type 0
IsTight part = part.holds ≡ part.versions

-- all its versions wait in targets that weren't flipped yet
abbrev pub IsOld : Option Plan → Part → Type 0
IsOld plan part = (vid : ℕ) → 1 ≤ times part.versions vid → is_unmoved plan vid ≡ true

-- none of them does
pub record IsNew (plan : Option Plan) (part : Part) : Type 0 where
  pub moved : (vid : ℕ) → 1 ≤ times part.versions vid → is_unmoved plan vid ≡ false
  pub tight : IsTight part

pub record IsOldOrNew (d : Dataset) : Type 0 where
  pub begun : 0 < length d.cvd.versions
  pub runs : Runs d.plan
  pub some : (part : Part) → IsIn d.parts part → 0 < length part.versions
  pub either : (part : Part) → IsIn d.parts part → IsOld d.plan part ⊎ IsNew d.plan part

abbrev pub AreOldOrNew : List Dataset → Type 0
AreOldOrNew [] = Unit {0}
AreOldOrNew (d ∷ sets) = IsOldOrNew d × AreOldOrNew sets

abbrev pub AllTight : List Part → Type 0
AllTight parts = (part : Part) → IsIn parts part → IsTight part
