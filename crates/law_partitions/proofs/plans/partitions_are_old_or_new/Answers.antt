use Rattle.law_partitions.proofs.OldMoves.{moved_old}
use Rattle.law_partitions.proofs.OldTight.{old_at}
use Rattle.law_partitions.proofs.plans.partitions_are_old_or_new.Goals as goal

pub returns-clause-kept : goal.returns-clause-kept
returns-clause-kept c = moved_old

pub returns-clause-course : goal.returns-clause-course
returns-clause-course c = old_at
