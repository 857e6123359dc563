use Rattle.std.proofs.Common.{length}
use Rattle.ov_merge.proofs.merging.+merge_picks.Given as goal

abbrev pub decreases-merge_picks : goal.decreases-merge_picks
decreases-merge_picks l = length l.picks.now
