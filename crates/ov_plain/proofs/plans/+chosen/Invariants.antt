use Rattle.std.proofs.Common.{length}
use Rattle.ov_plain.proofs.plans.+chosen.Given as goal

abbrev pub decreases-chosen : goal.decreases-chosen
decreases-chosen l = length l.all.now
