use Rattle.std.proofs.Common.{length}
use Rattle.ov_targets.proofs.wanted.+wanted_of.Given as goal

abbrev pub decreases-wanted_of : goal.decreases-wanted_of
decreases-wanted_of l = length l.vids.now
