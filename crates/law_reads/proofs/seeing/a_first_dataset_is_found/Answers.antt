use Rattle.law_reads.proofs.Worked.{met}
use Rattle.law_reads.proofs.seeing.a_first_dataset_is_found.Goals as goal

pub returns : goal.returns
returns c = met
