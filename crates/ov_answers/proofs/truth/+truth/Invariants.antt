use Rattle.std.proofs.Common.{◌≡◌, map, take}
use Rattle.ov_model.specs.Answers.{truth}
use Rattle.ov_answers.specs.Reading.{here}
use Rattle.ov_answers.proofs.truth.+truth.Given as goal

abbrev pub invariant-truths-loop-cond : goal.invariant-truths-loop-cond
invariant-truths-loop-cond l = l.found ≡ map (truth (here l.cvd l.group)) (take l.cond-index l.conds)
