use Rattle.std.proofs.Common.{length}
use Rattle.ov_plain.proofs.plans.+one_meets.Given as goal

abbrev pub decreases-one_meets : goal.decreases-one_meets
decreases-one_meets l = length l.lists.now
