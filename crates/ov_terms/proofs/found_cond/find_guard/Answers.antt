use Rattle.std.proofs.Common.{ap}
use Rattle.ov_model.specs.Answers.{is_true}
use Rattle.ov_terms.proofs.found_cond.find_guard.Goals as goal

pub returns-in_ok-find_cond-in-Some : goal.returns-in_ok-find_cond-in-Some
returns-in_ok-find_cond-in-Some c = λ related group. rw c.in-Some.is (ap is_true (c.in_ok-find_cond-in-Some.ensures related group))
