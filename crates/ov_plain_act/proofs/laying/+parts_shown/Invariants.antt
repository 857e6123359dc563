use Rattle.std.proofs.Common.{length}
use Rattle.ov_plain_act.proofs.laying.+parts_shown.Given as goal

abbrev pub decreases-parts_shown : goal.decreases-parts_shown
decreases-parts_shown l = length l.parts.now
