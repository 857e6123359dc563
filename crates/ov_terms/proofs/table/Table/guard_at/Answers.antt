use Rattle.std.proofs.Common.{ap}
use Rattle.ov_model.specs.Answers.{is_true}
use Rattle.ov_terms.proofs.table.Table.guard_at.Goals as goal

pub returns-in_ok-at_version-in-Some : goal.returns-in_ok-at_version-in-Some
returns-in_ok-at_version-in-Some c = λ row. rw c.in-Some.is (ap is_true (c.in_ok-at_version-in-Some.ensures row))
