use Rattle.std.proofs.Common.{◌+◌, ap, ◌∙◌}
use Rattle.ov_catalog.specs.Steps.{steps_for}
use Rattle.ov_catalog.proofs.TargetLemmas.{rest-drop}
use Rattle.ov_catalog.proofs.TurnLemmas.{plan-steps-are}
use Rattle.ov_catalog.proofs.steps.plan_steps.Goals as goal

pub returns-clause-steps : goal.returns-clause-steps
returns-clause-steps c =
    plan-steps-are c.args.plan.now c.steps_for.result c.later_steps.result c.requires.at (c.steps_for.ensures.steps ∙ ap steps_for c.missing.ensures) (rw (c.as_slice.ensures, rest-drop c.args.plan.now.targets (c.args.plan.now.at + 1)) at c.later_steps.ensures.steps)
