use Rattle.std.proofs.Common.{ap}
use Rattle.ov_model.specs.Answers.{is_true}
use Rattle.ov_terms.proofs.of_rows.is_guard_of_row.Goals as goal

pub returns-in-Some : goal.returns-in-Some
returns-in-Some c = λ true v w row. rw c.in-Some.is (ap is_true (c.is_of_row.ensures true v w row))
