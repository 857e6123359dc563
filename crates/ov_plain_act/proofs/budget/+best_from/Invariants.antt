use Rattle.std.proofs.Common.{length}
use Rattle.ov_plain_act.proofs.budget.+best_from.Given as goal

abbrev pub decreases-best_from : goal.decreases-best_from
decreases-best_from l = length l.lines.now
