use Rattle.law_plans.proofs.Finishing.{split_stays}
use Rattle.law_plans.proofs.FromImages.{image_stays}
use Rattle.law_plans.proofs.laws.the_split_stays.Goals as goal

pub returns-clause-run : goal.returns-clause-run
returns-clause-run c = split_stays

pub returns-clause-image : goal.returns-clause-image
returns-clause-image c = image_stays
