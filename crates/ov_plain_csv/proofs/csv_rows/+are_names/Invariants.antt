use Rattle.std.proofs.Common.{length}
use Rattle.ov_plain_csv.proofs.csv_rows.+are_names.Given as goal

abbrev pub decreases-are_names : goal.decreases-are_names
decreases-are_names l = length l.fields.now
