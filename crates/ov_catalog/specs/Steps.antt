-- How many migration steps are left: for each target that wasn't flipped yet, a copy for each 256 records that it lacks, the
-- last one for what is left, and the flip.
--     steps_left n      over all plans
use Rattle.std.specs.Prelude.{ℕ, ◌+◌, ◌-◌, ◌/◌, List, [], ◌∷◌, Option, Some, None}
use Rattle.std.specs.List.{sum_by}
use Rattle.ov_catalog.specs.Numbers.{TargetNumbers, PlanNumbers, SetNumbers, Numbers}
use Rattle.ov_catalog.specs.Applying.{targets_from}

-- for a target that lacks so many records
abbrev pub steps_for : ℕ → ℕ
steps_for missing = (missing + 255) / 256 + 1

abbrev pub later_steps : List TargetNumbers → ℕ
later_steps [] = 0
later_steps (t ∷ ts) = steps_for (t.size - t.kept_records) + later_steps ts

-- the first of these targets is the current one, for which so many records were copied
abbrev pub current_steps : ℕ → List TargetNumbers → ℕ
current_steps copied [] = 0
current_steps copied (t ∷ ts) = steps_for (t.size - (t.kept_records + copied)) + later_steps ts

abbrev pub plan_steps : {S : Type 0} → Option (PlanNumbers S) → ℕ
plan_steps None = 0
plan_steps (Some plan) = current_steps plan.copied (targets_from plan.at plan.targets)

abbrev pub steps_of : {L S : Type 0} → List (SetNumbers L S) → ℕ
steps_of sets = sum_by (λ d. plan_steps d.plan) sets

abbrev pub steps_left : {L S : Type 0} → Numbers L S → ℕ
steps_left n = steps_of n.sets
