use Rattle.std.proofs.Common.{length}
use Rattle.ov_answers.proofs.terms.+present.Given as goal

abbrev pub decreases-present : goal.decreases-present
decreases-present l = length l.group.now
