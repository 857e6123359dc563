use Rattle.law_complete.proofs.OnDisk.{plan_left, split_left}
use Rattle.law_complete.proofs.laws.a_run_leaves_the_split_on_the_disk.Goals as goal

pub returns-clause-plan : goal.returns-clause-plan
returns-clause-plan c = λ steps w failed old new k d plan told played. plan_left steps w failed old new told played k d plan

pub returns-clause-later : goal.returns-clause-later
returns-clause-later c = λ steps w failed old new d p q told played. split_left steps w failed old new told played d p q
