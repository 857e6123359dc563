use Rattle.law_plans.proofs.Finishing.{ends_tight, flipped_there}
use Rattle.law_plans.proofs.FromImages.{image_gone, image_tight}
use Rattle.law_plans.proofs.Waiting.{gone}
use Rattle.law_plans.proofs.laws.the_last_flip_leaves_all_tight.Goals as goal

pub returns-clause-there : goal.returns-clause-there
returns-clause-there c = flipped_there

pub returns-clause-tight : goal.returns-clause-tight
returns-clause-tight c = ends_tight

pub returns-clause-gone : goal.returns-clause-gone
returns-clause-gone c = gone

pub returns-clause-image : goal.returns-clause-image
returns-clause-image c = image_tight

pub returns-clause-image_gone : goal.returns-clause-image_gone
returns-clause-image_gone c = image_gone
