use Rattle.std.proofs.Common.{length}
use Rattle.ov_answers.proofs.typing.+cols_kinds.Given as goal

abbrev pub decreases-cols_kinds : goal.decreases-cols_kinds
decreases-cols_kinds l = length l.cols.now
