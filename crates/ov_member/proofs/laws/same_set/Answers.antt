use Rattle.ov_member.proofs.RidLemmas.{same_from}
use Rattle.ov_member.proofs.laws.same_set.Goals as goal

pub returns : goal.returns
returns c = λ xs ys h k same. same_from 1 1 xs ys h k same
