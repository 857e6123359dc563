use Rattle.law_partitions.proofs.OldGone.{copied_waits, flipped_waits, gone, version_waits}
use Rattle.law_partitions.proofs.plans.a_waiting_partition_goes.Goals as goal

pub returns-clause-version : goal.returns-clause-version
returns-clause-version c = version_waits

pub returns-clause-copied : goal.returns-clause-copied
returns-clause-copied c = copied_waits

pub returns-clause-flipped : goal.returns-clause-flipped
returns-clause-flipped c = flipped_waits

pub returns-clause-gone : goal.returns-clause-gone
returns-clause-gone c = gone
