use Rattle.std.proofs.Common.{length}
use Rattle.ov_plain_csv.proofs.csv_text.+add_bytes.Given as goal

abbrev pub decreases-add_bytes : goal.decreases-add_bytes
decreases-add_bytes l = length l.bytes.now
