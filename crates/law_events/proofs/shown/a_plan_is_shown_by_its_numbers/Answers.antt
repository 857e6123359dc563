use Rattle.law_events.proofs.Left.{plan_missing, plan_wanted, plan_left, all_left}
use Rattle.law_events.proofs.shown.a_plan_is_shown_by_its_numbers.Goals as goal

pub returns-clause-missing : goal.returns-clause-missing
returns-clause-missing c = plan_missing

pub returns-clause-wanted : goal.returns-clause-wanted
returns-clause-wanted c = plan_wanted

pub returns-clause-steps : goal.returns-clause-steps
returns-clause-steps c = plan_left

pub returns-clause-all : goal.returns-clause-all
returns-clause-all c = all_left
