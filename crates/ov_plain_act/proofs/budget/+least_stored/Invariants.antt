use Rattle.std.proofs.Common.{length}
use Rattle.ov_plain_act.proofs.budget.+least_stored.Given as goal

abbrev pub decreases-least_stored : goal.decreases-least_stored
decreases-least_stored l = length l.lines.now
