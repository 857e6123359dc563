-- Where no step is asked for, or no plan runs, none follows a reply.
use Rattle.std.proofs.Common.{◌≡◌, ℕ, zero, suc, List, None, refl, ap, subst, sym, append-nil}
use Rattle.std.specs.Prelude.{Option}
use Rattle.ov_model.specs.Act.{Session}
use Rattle.ov_model.specs.Course.{Served, Space, and_steps, nothing, step_by, steps}
use Rattle.ov_model.specs.Moves.{Move}
use Rattle.ov_model.specs.Steps.{next_step}
use Rattle.ov_model.specs.World.{World}
use Rattle.law_room.specs.Room.{Entry, Made}
use Rattle.law_runs.specs.Licence.{LicensedStep, LicensedSteps}

pub no_steps : (n : ℕ) (s : Session) (w : World) (space : Space) → next_step w ≡ None → steps n s w space ≡ nothing w s space
no_steps zero s w space none = refl
no_steps (suc n) s w space none = ap (λ (next : Option Move). step_by (steps n s) w s space next) none

-- whatever room there is
pub idle_is_licensed : (n : ℕ) (entry : Entry) (before : List Made) (w : World) (space : Space) → next_step w ≡ None → LicensedSteps n entry before w space
idle_is_licensed zero entry before w space none = tt
idle_is_licensed (suc n) entry before w space none =
    subst (λ (next : Option Move). LicensedStep (LicensedSteps n entry) entry before w space next) (sym none) tt

-- where none is asked for, what was served is all
pub and_no_steps : (done : Served) → and_steps 0 done ≡ done
and_no_steps done = λ i. record done { items = append-nil done.items i }
