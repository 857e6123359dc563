use Rattle.law_plans.proofs.Finishing.{split_later}
use Rattle.law_plans.proofs.laws.a_split_stays_in_later_runs.Goals as goal

pub returns : goal.returns
returns c = λ w items j p q d. split_later w items j d p q
