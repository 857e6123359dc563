use Rattle.std.proofs.Common.{length}
use Rattle.ov_plain.proofs.plans.+meets.Given as goal

abbrev pub decreases-meets : goal.decreases-meets
decreases-meets l = length l.a.now
