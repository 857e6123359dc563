use Rattle.std.proofs.Common.{length}
use Rattle.ov_plain_csv.proofs.csv_text.+add_escaped.Given as goal

abbrev pub decreases-add_escaped : goal.decreases-add_escaped
decreases-add_escaped l = length l.field.now
