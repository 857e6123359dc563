use Rattle.law_partitions.proofs.OldTight.{idle_tight, last_tight, tight_at}
use Rattle.law_partitions.proofs.plans.partitions_are_tight_where_no_plan_runs.Goals as goal

pub returns-clause-idle : goal.returns-clause-idle
returns-clause-idle c = idle_tight

pub returns-clause-last_flip : goal.returns-clause-last_flip
returns-clause-last_flip c = last_tight

pub returns-clause-course : goal.returns-clause-course
returns-clause-course c = tight_at
