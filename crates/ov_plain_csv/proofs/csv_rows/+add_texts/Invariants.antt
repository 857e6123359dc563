use Rattle.std.proofs.Common.{length}
use Rattle.ov_plain_csv.proofs.csv_rows.+add_texts.Given as goal

abbrev pub decreases-add_texts : goal.decreases-add_texts
decreases-add_texts l = length l.fields.now
