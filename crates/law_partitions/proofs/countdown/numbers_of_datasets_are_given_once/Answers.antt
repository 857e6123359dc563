use Rattle.law_partitions.proofs.CountRuns.{moved_numbered}
use Rattle.law_partitions.proofs.countdown.numbers_of_datasets_are_given_once.Goals as goal

pub returns-clause-kept : goal.returns-clause-kept
returns-clause-kept c = moved_numbered
