-- A dataset's threshold, as a Whole spells it.
--     p_of threshold, q_of threshold      its numbers, 0 for none
--     IsSaid threshold plan      these numbers are no others' than its own, and a plan runs at it
use Rattle.std.specs.Prelude.{◌≡◌, ℕ, Option, Some, None}
use Rattle.ov_catalog.specs.Numbers.{PlanNumbers}
use Rattle.ov_catalog.specs.Raw.{threshold_in}

abbrev pub p_of : Option (ℕ × ℕ) → ℕ
p_of None = 0
p_of (Some threshold) = threshold.0

abbrev pub q_of : Option (ℕ × ℕ) → ℕ
q_of None = 0
q_of (Some threshold) = threshold.1

-- a plan runs at the dataset's threshold
abbrev pub RunsAt : {S : Type 0} → Option (ℕ × ℕ) → Option (PlanNumbers S) → Type 0
RunsAt threshold None = Unit {0}
RunsAt threshold (Some plan) = threshold ≡ Some (plan.p, plan.q)

pub record IsSaid {S : Type 0} (threshold : Option (ℕ × ℕ)) (plan : Option (PlanNumbers S)) : Type 0 where
  pub said : threshold_in (p_of threshold) (q_of threshold) ≡ threshold
  pub runs : RunsAt threshold plan
