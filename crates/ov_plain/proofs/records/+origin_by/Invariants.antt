use Rattle.std.proofs.Common.{length}
use Rattle.ov_plain.proofs.records.+origin_by.Given as goal

abbrev pub decreases-origin_by : goal.decreases-origin_by
decreases-origin_by l = length l.parents.now
