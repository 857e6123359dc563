use Rattle.std.proofs.Common.{length}
use Rattle.ov_plain_csv.proofs.csv_rows.+null_key.Given as goal

abbrev pub decreases-null_key : goal.decreases-null_key
decreases-null_key l = length l.columns.now
