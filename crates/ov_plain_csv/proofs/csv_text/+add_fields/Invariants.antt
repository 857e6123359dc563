use Rattle.std.proofs.Common.{length}
use Rattle.ov_plain_csv.proofs.csv_text.+add_fields.Given as goal

abbrev pub decreases-add_fields : goal.decreases-add_fields
decreases-add_fields l = length l.fields.now
