use Rattle.std.proofs.Common.{length}
use Rattle.ov_plain_csv.proofs.csv_text.+needs_quotes.Given as goal

abbrev pub decreases-needs_quotes : goal.decreases-needs_quotes
decreases-needs_quotes l = length l.field.now
