use Rattle.ov_model.specs.World.{World}
use Rattle.law_partitions.proofs.CountRuns.{none_left, no_plan, moved_runs}
use Rattle.law_partitions.proofs.countdown.a_running_plan_has_steps_left.Goals as goal

pub returns-clause-none : goal.returns-clause-none
returns-clause-none c = λ (w : World). none_left w.sets

pub returns-clause-no_plan : goal.returns-clause-no_plan
returns-clause-no_plan c = λ (w : World). no_plan w.sets

pub returns-clause-kept : goal.returns-clause-kept
returns-clause-kept c = moved_runs
