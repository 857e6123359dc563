use Rattle.law_image.proofs.Worked.{the_image_stands}
use Rattle.law_plans.proofs.Worked.{all_versions, the_beginning, the_end, the_run}
use Rattle.law_plans.proofs.laws.a_plan_ends_in_a_run.Goals as goal

pub returns-clause-stands : goal.returns-clause-stands
returns-clause-stands c = the_image_stands

pub returns-clause-run : goal.returns-clause-run
returns-clause-run c = the_run

pub returns-clause-begins : goal.returns-clause-begins
returns-clause-begins c = the_beginning

pub returns-clause-ends : goal.returns-clause-ends
returns-clause-ends c = the_end

pub returns-clause-has_all : goal.returns-clause-has_all
returns-clause-has_all c = all_versions
