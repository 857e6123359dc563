use Rattle.std.proofs.Common.{length}
use Rattle.ov_plain_act.proofs.planning.+cost_in.Given as goal

abbrev pub decreases-cost_in : goal.decreases-cost_in
decreases-cost_in l = length l.parts.now
