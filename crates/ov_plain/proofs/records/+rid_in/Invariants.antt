use Rattle.std.proofs.Common.{length}
use Rattle.ov_plain.proofs.records.+rid_in.Given as goal

abbrev pub decreases-rid_in : goal.decreases-rid_in
decreases-rid_in l = length l.recs.now
