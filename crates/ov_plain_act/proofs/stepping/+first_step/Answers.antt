-- The first dataset's plan runs.
use Rattle.std.proofs.Common.{◌≡◌, rules}
use Rattle.std.specs.Prelude.{Some}
use Rattle.ov_plain_act.proofs.StepByStep.{first_is}
use Rattle.ov_plain_act.proofs.stepping.+first_step.Goals as goal
use Rattle.ov_plain_act.specs.Acts.{move_of}

pub returns-in_ok-step_of-in-Some-clause-is : goal.returns-in_ok-step_of-in-Some-clause-is
returns-in_ok-step_of-in-Some-clause-is t c =
    let runs : c.set-item.result.plan ≡ Some c.in-Some.plan = search rules
    in first_is c.args.sets.now c.set-item.result c.in-Some.plan (move_of c.in_ok-step_of-in-Some.field-0) c.in-len1-up.len_at_least c.set-item.is runs
    c.in_ok-step_of-in-Some.ensures.is
