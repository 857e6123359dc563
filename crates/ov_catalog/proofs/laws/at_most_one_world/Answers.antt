use Rattle.ov_catalog.proofs.Standing.{at_most_one}
use Rattle.ov_catalog.proofs.laws.at_most_one_world.Goals as goal

pub returns : goal.returns
returns c = at_most_one
