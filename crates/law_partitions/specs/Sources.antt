-- The sources of a plan's targets.
--     AreSourced sets      what a waiting target keeps stands in a partition that goes, at the latest, with its flip
use Rattle.std.specs.Prelude.{◌≡◌, ◌≤◌, ℕ, ◌+◌, false, List, [], ◌∷◌, Option, Some, None}
use Rattle.ov_model.specs.Lists.{IsIn}
use Rattle.ov_model.specs.Plans.{meets}
use Rattle.ov_model.specs.World.{Target, Plan, Dataset, targets_from}
use Rattle.law_partitions.specs.Pieces.{versions_of}

-- places from a least one on, none twice
abbrev pub AscendFrom : ℕ → List ℕ → Type 0
AscendFrom least [] = Unit {0}
AscendFrom least (n ∷ ns) = (least ≤ n) × AscendFrom (n + 1) ns

-- The places of what a target keeps ascend, and no target behind it has a version of its source.
pub record IsSourced (d : Dataset) (t : Target) (later : List Target) : Type 0 where
  pub ascend : AscendFrom 0 t.kept
  pub last : (other : Target) → IsIn later other → meets other.versions (versions_of d.parts t.source) ≡ false

abbrev pub AllSourced : Dataset → List Target → Type 0
AllSourced d [] = Unit {0}
AllSourced d (t ∷ ts) = IsSourced d t ts × AllSourced d ts

abbrev pub PlanIsSourced : Dataset → Option Plan → Type 0
PlanIsSourced d None = Unit {0}
PlanIsSourced d (Some plan) = AllSourced d (targets_from plan.at plan.targets)

abbrev pub AreSourced : List Dataset → Type 0
AreSourced [] = Unit {0}
AreSourced (d ∷ sets) = PlanIsSourced d d.plan × AreSourced sets
