use Rattle.std.proofs.Common.{length}
use Rattle.ov_plain.proofs.records.+fresh_in.Given as goal

abbrev pub decreases-fresh_in : goal.decreases-fresh_in
decreases-fresh_in l = length l.recs.now
