use Rattle.ov_front.proofs.FrontLaws.{front_law}
use Rattle.ov_front.proofs.laws.fronts_tell_keys.Goals as goal

pub returns : goal.returns
returns c = front_law
