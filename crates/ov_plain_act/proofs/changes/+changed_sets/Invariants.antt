use Rattle.std.proofs.Common.{length}
use Rattle.ov_plain_act.proofs.changes.+changed_sets.Given as goal

abbrev pub decreases-changed_sets : goal.decreases-changed_sets
decreases-changed_sets l = length l.sets
