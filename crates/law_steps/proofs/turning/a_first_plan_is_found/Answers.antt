use Rattle.law_steps.proofs.Worked.{met}
use Rattle.law_steps.proofs.turning.a_first_plan_is_found.Goals as goal

pub returns : goal.returns
returns c = met
