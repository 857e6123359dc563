use Rattle.law_complete.proofs.Ended.{ends}
use Rattle.law_complete.proofs.laws.valid_input_is_served.Goals as goal

pub returns : goal.returns
returns c = λ words steps w old new status valid none. ends words steps w old new valid none status
