use Rattle.std.proofs.Common.{length}
use Rattle.ov_answers.proofs.typing.+kinds_of.Given as goal

abbrev pub decreases-kinds_of : goal.decreases-kinds_of
decreases-kinds_of l = length l.columns.now
