use Rattle.std.proofs.Common.{length}
use Rattle.ov_plain_csv.proofs.csv_rows.+bad_field.Given as goal

abbrev pub decreases-bad_field : goal.decreases-bad_field
decreases-bad_field l = length l.columns.now
