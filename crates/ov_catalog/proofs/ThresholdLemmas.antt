-- A dataset's threshold and its plan.
use Rattle.std.proofs.Common.{◌≡◌, ℕ, ◌+◌, ◌≤◌, length, refl, sym, subst, inl, inr, arith}
use Rattle.std.specs.Prelude.{Option, Some, nat_lt}
use Rattle.std.proofs.lemmas.Bool.{cases_Bool, ne_eqb}
use Rattle.ov_host.specs.declared.area.Extent.{Extent}
use Rattle.ov_catalog.specs.Events.{next_target}
use Rattle.ov_catalog.specs.Numbers.{PlanNumbers}
use Rattle.ov_catalog.specs.Raw.{threshold_in}
use Rattle.ov_catalog.specs.Thresholds.{IsSaid, RunsAt}

-- a threshold that isn't 0 and 0 is spelled by its numbers
pub said-as : (p q : ℕ) → 1 ≤ p → threshold_in p q ≡ Some (p, q)
said-as p q some = rw (ne_eqb p 0 (λ e. absurd (omega (arith, e, some)))) refl

-- the next target's plan runs at the same one
pub runs-next : (threshold : Option (ℕ × ℕ)) (plan : PlanNumbers Extent) → RunsAt threshold (Some plan) → RunsAt threshold (next_target plan)
runs-next threshold plan runs =
    elim (cases_Bool (nat_lt (plan.at + 1) (length plan.targets))) [
      | inl e ↦ rw e runs
      | inr e ↦ rw e tt
    ]

pub said-next : (threshold : Option (ℕ × ℕ)) (plan : PlanNumbers Extent) (next : Option (PlanNumbers Extent)) → IsSaid threshold (Some plan) → next ≡ next_target plan → IsSaid threshold next
said-next threshold plan next is same = record {
  said = is.said;
  runs = subst (λ (o : Option (PlanNumbers Extent)). RunsAt threshold o) (sym same) (runs-next threshold plan is.runs);
}
