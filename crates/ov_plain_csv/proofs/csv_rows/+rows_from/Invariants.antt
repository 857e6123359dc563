use Rattle.std.proofs.Common.{length}
use Rattle.ov_plain_csv.proofs.csv_rows.+rows_from.Given as goal

abbrev pub decreases-rows_from : goal.decreases-rows_from
decreases-rows_from l = length l.records.now
