-- What isn't there takes each group.
use Rattle.std.proofs.Common.{◌∙◌, ap}
use Rattle.ov_model.specs.Answers.{is_true}
use Rattle.ov_terms.proofs.ThreeValues.{some-true}
use Rattle.ov_terms.proofs.table.Table.holds.Goals as goal

pub returns-in-Some-truth : goal.returns-in-Some-truth
returns-in-Some-truth c = rw c.in-Some.is (some-true c.in-Some-truth.truth ∙ ap is_true c.in-Some-truth.ensures)

pub returns-in-None-truth : goal.returns-in-None-truth
returns-in-None-truth c = rw c.in-Some.is (ap is_true c.in-None-truth.ensures)
