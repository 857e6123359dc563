use Rattle.law_runs.proofs.Behind.{serves_stepped, serves_unstepped}
use Rattle.law_runs.proofs.migration.steps_follow_a_line.Goals as goal

pub returns-clause-line : goal.returns-clause-line
returns-clause-line c = λ forms n w s t line ok refused before at_reply now old mid new some a b. serves_stepped forms n w s t line some ok refused before at_reply now old mid new a b

pub returns-clause-unserved : goal.returns-clause-unserved
returns-clause-unserved c = λ forms n w s t line refused before now old new some a. serves_unstepped forms n w s t line some refused before now old new a
