use Rattle.law_plans.proofs.Answering.{answered}
use Rattle.law_plans.proofs.FromImages.{image_told}
use Rattle.law_plans.proofs.Standing.{as_told}
use Rattle.law_plans.proofs.Telling.{threshold_is}
use Rattle.law_plans.proofs.laws.a_finished_plan_is_as_told.Goals as goal

pub returns-clause-answered : goal.returns-clause-answered
returns-clause-answered c = answered

pub returns-clause-threshold : goal.returns-clause-threshold
returns-clause-threshold c = threshold_is

pub returns-clause-run : goal.returns-clause-run
returns-clause-run c = as_told

pub returns-clause-image : goal.returns-clause-image
returns-clause-image c = image_told
