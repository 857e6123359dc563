use Rattle.law_image.proofs.Standing.{unmade_stands, new_stands}
use Rattle.law_image.proofs.laws.nothing_written_stands_for_the_empty_world.Goals as goal

pub returns-clause-unmade : goal.returns-clause-unmade
returns-clause-unmade c = unmade_stands

pub returns-clause-new : goal.returns-clause-new
returns-clause-new c = new_stands
