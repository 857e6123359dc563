use Rattle.std.proofs.Common.{length}
use Rattle.ov_plain.proofs.records.+recs.Given as goal

abbrev pub decreases-recs : goal.decreases-recs
decreases-recs l = length l.versions.now
