use Rattle.std.proofs.Common.{length}
use Rattle.ov_answers.proofs.refusals.+have_null.Given as goal

abbrev pub decreases-have_null : goal.decreases-have_null
decreases-have_null l = length l.values.now
