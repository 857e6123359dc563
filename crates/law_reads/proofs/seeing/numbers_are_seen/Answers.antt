use Rattle.law_reads.proofs.Counted.{numbers}
use Rattle.law_reads.proofs.seeing.numbers_are_seen.Goals as goal

pub returns : goal.returns
returns c = numbers
