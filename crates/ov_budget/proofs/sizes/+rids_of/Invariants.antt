use Rattle.std.proofs.Common.{length}
use Rattle.ov_budget.proofs.sizes.+rids_of.Given as goal

abbrev pub decreases-rids_of : goal.decreases-rids_of
decreases-rids_of l = length l.vids.now
