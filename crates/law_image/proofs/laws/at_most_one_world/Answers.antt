use Rattle.law_image.proofs.Standing.{one_world}
use Rattle.law_image.proofs.laws.at_most_one_world.Goals as goal

pub returns : goal.returns
returns c = one_world
