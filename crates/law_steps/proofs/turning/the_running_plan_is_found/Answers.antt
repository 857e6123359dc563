use Rattle.law_steps.proofs.Finding.{no_turn, plan_seen, seen_turn}
use Rattle.law_steps.proofs.turning.the_running_plan_is_found.Goals as goal

pub returns-clause-some : goal.returns-clause-some
returns-clause-some c = seen_turn

pub returns-clause-none : goal.returns-clause-none
returns-clause-none c = no_turn

pub returns-clause-numbers : goal.returns-clause-numbers
returns-clause-numbers c = plan_seen
