use Rattle.std.proofs.Common.{length}
use Rattle.ov_plain.proofs.records.+weights.Given as goal

abbrev pub decreases-weights : goal.decreases-weights
decreases-weights l = length l.parents.now
