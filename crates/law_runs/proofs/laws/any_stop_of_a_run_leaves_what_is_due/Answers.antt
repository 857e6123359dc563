use Rattle.law_runs.proofs.Due.{run_is_due}
use Rattle.law_runs.proofs.laws.any_stop_of_a_run_leaves_what_is_due.Goals as goal

pub returns : goal.returns
returns c = run_is_due
