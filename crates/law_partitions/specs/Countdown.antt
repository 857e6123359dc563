-- What the number of steps that are left rests on.
--     AllRun sets      a running plan has a target that wasn't flipped yet
--     AreNumbered w      no two datasets have one number
use Rattle.std.specs.Prelude.{◌≡◌, ◌≤◌, ◌<◌, ℕ, ◌+◌, ◌==◌, if◌then◌else◌, List, [], ◌∷◌, length, Option, Some, None}
use Rattle.ov_model.specs.World.{Plan, Dataset, World}

abbrev pub PlanRuns : Option Plan → Type 0
PlanRuns None = Unit {0}
PlanRuns (Some plan) = plan.at < length plan.targets

abbrev pub AllRun : List Dataset → Type 0
AllRun [] = Unit {0}
AllRun (d ∷ sets) = PlanRuns d.plan × AllRun sets

-- how many datasets have a number
abbrev pub number_times : List Dataset → ℕ → ℕ
number_times [] number = 0
number_times (d ∷ sets) number = (if d.cvd.number == number then 1 else 0) + number_times sets number

-- the next dataset's number is above them all
pub record AreNumbered (w : World) : Type 0 where
  pub once : (number : ℕ) → number_times w.sets number ≤ 1
  pub below : (number : ℕ) → w.next ≤ number → number_times w.sets number ≡ 0
