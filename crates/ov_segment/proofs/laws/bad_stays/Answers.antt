use Rattle.ov_segment.proofs.RunLemmas.{after_bad}
use Rattle.ov_segment.proofs.laws.bad_stays.Goals as goal

pub returns : goal.returns
returns c = after_bad
