use Rattle.std.proofs.Common.{length}
use Rattle.ov_plain.proofs.widening.+add_nulls.Given as goal

abbrev pub decreases-add_nulls : goal.decreases-add_nulls
decreases-add_nulls l = length l.added.now
