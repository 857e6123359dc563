use Rattle.law_plans.proofs.Images.{any_run, empty_plans, image_plans, run_by}
use Rattle.law_plans.proofs.Walking.{plans_at, plans_kept}
use Rattle.law_plans.proofs.laws.worlds_of_images_have_plans.Goals as goal

pub returns-clause-start : goal.returns-clause-start
returns-clause-start c = empty_plans

pub returns-clause-image : goal.returns-clause-image
returns-clause-image c = image_plans

pub returns-clause-moved : goal.returns-clause-moved
returns-clause-moved c = plans_kept

pub returns-clause-each : goal.returns-clause-each
returns-clause-each c = plans_at

pub returns-clause-forms : goal.returns-clause-forms
returns-clause-forms c = run_by

pub returns-clause-all : goal.returns-clause-all
returns-clause-all c = any_run
