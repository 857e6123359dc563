use Rattle.std.proofs.Common.{length}
use Rattle.ov_plain.proofs.widening.+wide_recs.Given as goal

abbrev pub decreases-wide_recs : goal.decreases-wide_recs
decreases-wide_recs l = length l.recs.now
