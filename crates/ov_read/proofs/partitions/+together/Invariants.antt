use Rattle.std.proofs.Common.{length}
use Rattle.ov_read.proofs.partitions.+together.Given as goal

abbrev pub decreases-together : goal.decreases-together
decreases-together l = length l.sets.now
