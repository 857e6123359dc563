use Rattle.ov_segment.proofs.RunLemmas.{answers_same}
use Rattle.ov_segment.proofs.laws.one_answer.Goals as goal

pub returns : goal.returns
returns c = answers_same
