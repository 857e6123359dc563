use Rattle.ov_catalog.proofs.Standing.{nothing_stands}
use Rattle.ov_catalog.proofs.laws.nothing_stands_for_the_empty_world.Goals as goal

pub returns : goal.returns
returns c = nothing_stands
