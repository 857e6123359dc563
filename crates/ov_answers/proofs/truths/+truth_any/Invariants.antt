use Rattle.std.proofs.Common.{length}
use Rattle.ov_answers.proofs.truths.+truth_any.Given as goal

abbrev pub decreases-truth_any : goal.decreases-truth_any
decreases-truth_any l = length l.truths.now
