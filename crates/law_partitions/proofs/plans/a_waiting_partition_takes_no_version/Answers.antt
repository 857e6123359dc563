use Rattle.law_partitions.proofs.OldTight.{joined_moved, waiting_stays}
use Rattle.law_partitions.proofs.plans.a_waiting_partition_takes_no_version.Goals as goal

pub returns-clause-joined : goal.returns-clause-joined
returns-clause-joined c = λ d v id placed is has. joined_moved d v placed is has id

pub returns-clause-stays : goal.returns-clause-stays
returns-clause-stays c = waiting_stays
