use Rattle.std.proofs.Common.{length}
use Rattle.ov_plain.proofs.records.+weight.Given as goal

abbrev pub decreases-weight : goal.decreases-weight
decreases-weight l = length l.a.now
