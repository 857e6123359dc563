use Rattle.law_steps.proofs.Holding.{held_in_part}
use Rattle.law_steps.proofs.missing.a_missing_record_is_in_each_of_its_partitions.Goals as goal

pub returns : goal.returns
returns c = held_in_part
