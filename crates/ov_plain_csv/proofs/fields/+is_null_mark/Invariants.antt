use Rattle.std.proofs.Common.{length}
use Rattle.ov_plain_csv.proofs.fields.+is_null_mark.Given as goal

abbrev pub decreases-is_null_mark : goal.decreases-is_null_mark
decreases-is_null_mark l = length l.bytes.now
