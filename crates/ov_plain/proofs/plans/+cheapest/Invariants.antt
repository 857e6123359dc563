use Rattle.std.proofs.Common.{length}
use Rattle.ov_plain.proofs.plans.+cheapest.Given as goal

abbrev pub decreases-cheapest : goal.decreases-cheapest
decreases-cheapest l = length l.parts.now
