use Rattle.std.proofs.Common.{length}
use Rattle.ov_answers.proofs.typing.+kind_named.Given as goal

abbrev pub decreases-kind_named : goal.decreases-kind_named
decreases-kind_named l = length l.columns.now
