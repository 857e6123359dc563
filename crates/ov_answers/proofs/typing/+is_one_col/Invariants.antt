use Rattle.std.proofs.Common.{length}
use Rattle.ov_answers.proofs.typing.+is_one_col.Given as goal

abbrev pub decreases-is_one_col : goal.decreases-is_one_col
decreases-is_one_col l = length l.cols.now
