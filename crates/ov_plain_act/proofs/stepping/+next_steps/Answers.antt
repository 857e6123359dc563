-- A step, and those behind it.
use Rattle.std.proofs.Common.{◌≡◌, ◌<◌, List, ◌∷◌, sym, ◌∙◌, ap, rules}
use Rattle.std.specs.Prelude.{Some}
use Rattle.ov_model.specs.Moves.{Move}
use Rattle.ov_model.specs.Steps.{first_step}
use Rattle.ov_plain_act.proofs.StepByStep.{steps_more, moved_more}
use Rattle.ov_plain_act.proofs.stepping.+next_steps.Goals as goal
use Rattle.ov_plain_act.specs.Acts.{move_of}

pub returns-in_ok-all-in-Some-clause-moves : goal.returns-in_ok-all-in-Some-clause-moves
returns-in_ok-all-in-Some-clause-moves t c =
    let some : 0 < c.args.count = search rules
    in let step : Some (move_of c.in-Some.step) ≡ first_step c.args.world.sets = search rules
    in c.in_ok-all-in-Some.ensures.moves
    ∙ ap (λ (ms : List Move). move_of c.in-Some.step ∷ ms) c.in_ok-later-in-Some.ensures.moves
    ∙ sym (steps_more c.args.count c.args.world c.in_ok-after-in-Some.after (move_of c.in-Some.step) some step c.in_ok-after-in-Some.ensures)

pub returns-in_ok-all-in-Some-clause-world : goal.returns-in_ok-all-in-Some-clause-world
returns-in_ok-all-in-Some-clause-world t c =
    let some : 0 < c.args.count = search rules
    in let step : Some (move_of c.in-Some.step) ≡ first_step c.args.world.sets = search rules
    in c.in_ok-all-in-Some.ensures.world
    ∙ c.in_ok-later-in-Some.ensures.world
    ∙ sym (moved_more c.args.count c.args.world c.in_ok-after-in-Some.after (move_of c.in-Some.step) some step c.in_ok-after-in-Some.ensures)
