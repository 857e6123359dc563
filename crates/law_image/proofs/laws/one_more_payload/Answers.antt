use Rattle.law_image.proofs.Standing.{one_more}
use Rattle.law_image.proofs.laws.one_more_payload.Goals as goal

pub returns : goal.returns
returns c = one_more
