use Rattle.std.proofs.Common.{length}
use Rattle.ov_answers.proofs.refusals.+null_row.Given as goal

abbrev pub decreases-null_row : goal.decreases-null_row
decreases-null_row l = length l.rows.now
