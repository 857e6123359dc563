use Rattle.std.proofs.Common.{length}
use Rattle.ov_answers.proofs.truths.+truth_every.Given as goal

abbrev pub decreases-truth_every : goal.decreases-truth_every
decreases-truth_every l = length l.truths.now
