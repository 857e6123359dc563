-- The first step of some datasets, and a step with those behind it.
use Rattle.std.proofs.Common.{◌≡◌, ℕ, zero, suc, ◌-◌, ◌<◌, ◌≤◌, List, [], ◌∷◌, length, get_or, refl, sym, ◌∙◌, ap, subst, arith}
use Rattle.std.specs.Prelude.{Some}
use Rattle.ov_model.specs.Moves.{Move, moved}
use Rattle.ov_model.specs.Steps.{step_of, first_step, next_steps, all_moved}
use Rattle.ov_model.specs.World.{Plan, Dataset, World}

-- of the first dataset, where its plan runs
pub first_is : (sets : List Dataset) (d : Dataset) (plan : Plan) (m : Move) → 1 ≤ length sets → d ≡ get_or sets 0 d → d.plan ≡ Some plan
    → m ≡ step_of d plan → Some m ≡ first_step sets
first_is [] d plan m some first runs is = absurd (omega arith)
first_is (x ∷ xs) d plan m some first runs is =
    let here : x.plan ≡ Some plan = subst (λ (u : Dataset). u.plan ≡ Some plan) first runs in
    let step : m ≡ step_of x plan = subst (λ (u : Dataset). m ≡ step_of u plan) first is in
    rw (here, step) refl

pub steps_more : (count : ℕ) (w next : World) (m : Move) → 0 < count → Some m ≡ first_step w.sets → next ≡ moved m w
    → next_steps count w ≡ m ∷ next_steps (count - 1) next
steps_more zero w next m some e f = absurd (omega arith)
steps_more (suc n) w next m some e f =
    let less : suc n - 1 ≡ n = omega arith
    in rw (sym e, f) (ap (λ (k : ℕ). m ∷ next_steps k (moved m w)) (sym less))

pub moved_more : (count : ℕ) (w next : World) (m : Move) → 0 < count → Some m ≡ first_step w.sets → next ≡ moved m w
    → all_moved (next_steps count w) w ≡ all_moved (next_steps (count - 1) next) next
moved_more count w next m some e f =
    ap (λ (ms : List Move). all_moved ms w) (steps_more count w next m some e f)
    ∙ ap (λ (v : World). all_moved (next_steps (count - 1) next) v) (sym f)
