use Rattle.law_plans.proofs.Telling.{has_all, no_commit}
use Rattle.law_plans.proofs.laws.all_versions_are_there_without_a_commit.Goals as goal

pub returns-clause-untouched : goal.returns-clause-untouched
returns-clause-untouched c = has_all

pub returns-clause-committed : goal.returns-clause-committed
returns-clause-committed c = no_commit
