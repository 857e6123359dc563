use Rattle.std.proofs.Common.{length}
use Rattle.ov_plain.proofs.widening.+wide_rows.Given as goal

abbrev pub decreases-wide_rows : goal.decreases-wide_rows
decreases-wide_rows l = length l.rows.now
