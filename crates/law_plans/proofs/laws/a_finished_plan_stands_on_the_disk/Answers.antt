use Rattle.law_plans.proofs.OnDisk.{plan_on_disk, split_on_disk}
use Rattle.law_plans.proofs.laws.a_finished_plan_stands_on_the_disk.Goals as goal

pub returns-clause-plan : goal.returns-clause-plan
returns-clause-plan c = plan_on_disk

pub returns-clause-later : goal.returns-clause-later
returns-clause-later c = λ w items j p q d. split_on_disk w items j d p q
