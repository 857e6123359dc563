use Rattle.law_runs.proofs.Due.{is_due}
use Rattle.law_runs.proofs.laws.a_stop_is_found_between_due_replies.Goals as goal

pub returns : goal.returns
returns c = is_due
