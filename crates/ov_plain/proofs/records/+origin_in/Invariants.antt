use Rattle.std.proofs.Common.{length}
use Rattle.ov_plain.proofs.records.+origin_in.Given as goal

abbrev pub decreases-origin_in : goal.decreases-origin_in
decreases-origin_in l = length l.recs.now
