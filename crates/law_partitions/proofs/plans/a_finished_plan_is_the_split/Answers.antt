use Rattle.law_partitions.proofs.PlanMoves.{finished, finished_at, moved_planned, planned_at}
use Rattle.law_partitions.proofs.plans.a_finished_plan_is_the_split.Goals as goal

pub returns-clause-kept : goal.returns-clause-kept
returns-clause-kept c = moved_planned

pub returns-clause-course : goal.returns-clause-course
returns-clause-course c = planned_at

pub returns-clause-last_flip : goal.returns-clause-last_flip
returns-clause-last_flip c = finished

pub returns-clause-at_each_world : goal.returns-clause-at_each_world
returns-clause-at_each_world c = finished_at
