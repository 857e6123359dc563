use Rattle.ov_catalog.proofs.WorkedChains.{plan_event, plan_applies, plan_past_off, plan_short_off, plan_numbers}
use Rattle.ov_catalog.proofs.worked.a_plan_of_a_chain.Goals as goal

pub returns-clause-event : goal.returns-clause-event
returns-clause-event c = plan_event

pub returns-clause-applies : goal.returns-clause-applies
returns-clause-applies c = plan_applies

pub returns-clause-past : goal.returns-clause-past
returns-clause-past c = plan_past_off

pub returns-clause-short : goal.returns-clause-short
returns-clause-short c = plan_short_off

pub returns-clause-numbers : goal.returns-clause-numbers
returns-clause-numbers c = plan_numbers
