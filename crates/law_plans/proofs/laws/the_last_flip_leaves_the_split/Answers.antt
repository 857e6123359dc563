use Rattle.law_plans.proofs.Finishing.{ends_finished}
use Rattle.law_plans.proofs.FromImages.{image_finished}
use Rattle.law_plans.proofs.laws.the_last_flip_leaves_the_split.Goals as goal

pub returns-clause-run : goal.returns-clause-run
returns-clause-run c = ends_finished

pub returns-clause-image : goal.returns-clause-image
returns-clause-image c = image_finished
