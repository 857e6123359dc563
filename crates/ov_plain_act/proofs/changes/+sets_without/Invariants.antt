use Rattle.std.proofs.Common.{length}
use Rattle.ov_plain_act.proofs.changes.+sets_without.Given as goal

abbrev pub decreases-sets_without : goal.decreases-sets_without
decreases-sets_without l = length l.sets
