use Rattle.std.proofs.Common.{length}
use Rattle.ov_plain_csv.proofs.csv_text.+add_values.Given as goal

abbrev pub decreases-add_values : goal.decreases-add_values
decreases-add_values l = length l.columns.now
