use Rattle.law_partitions.proofs.CourseWhole.{sound_bounded}
use Rattle.law_partitions.proofs.PlanBounds.{split_bounded}
use Rattle.law_partitions.proofs.plans.a_finished_plan_meets_the_bounds.Goals as goal

pub returns-clause-set : goal.returns-clause-set
returns-clause-set c = split_bounded

pub returns-clause-course : goal.returns-clause-course
returns-clause-course c = sound_bounded
