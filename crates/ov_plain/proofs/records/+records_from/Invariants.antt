use Rattle.std.proofs.Common.{length}
use Rattle.ov_plain.proofs.records.+records_from.Given as goal

abbrev pub decreases-records_from : goal.decreases-records_from
decreases-records_from l = length l.rows.now
