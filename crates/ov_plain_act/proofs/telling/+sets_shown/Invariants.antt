use Rattle.std.proofs.Common.{length}
use Rattle.ov_plain_act.proofs.telling.+sets_shown.Given as goal

abbrev pub decreases-sets_shown : goal.decreases-sets_shown
decreases-sets_shown l = length l.sets.now
