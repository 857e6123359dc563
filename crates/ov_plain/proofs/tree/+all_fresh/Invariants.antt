use Rattle.std.proofs.Common.{length}
use Rattle.ov_plain.proofs.tree.+all_fresh.Given as goal

abbrev pub decreases-all_fresh : goal.decreases-all_fresh
decreases-all_fresh l = length l.vids.now
