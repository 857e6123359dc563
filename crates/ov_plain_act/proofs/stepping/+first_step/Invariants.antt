use Rattle.std.proofs.Common.{length}
use Rattle.ov_plain_act.proofs.stepping.+first_step.Given as goal

abbrev pub decreases-first_step : goal.decreases-first_step
decreases-first_step l = length l.sets.now
