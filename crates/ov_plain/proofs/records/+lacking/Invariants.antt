use Rattle.std.proofs.Common.{length}
use Rattle.ov_plain.proofs.records.+lacking.Given as goal

abbrev pub decreases-lacking : goal.decreases-lacking
decreases-lacking l = length l.recs.now
