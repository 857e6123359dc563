use Rattle.law_partitions.proofs.CountSteps.{one_step_less}
use Rattle.law_partitions.proofs.countdown.each_step_is_one_step_less.Goals as goal

pub returns : goal.returns
returns c = one_step_less
