use Rattle.std.proofs.Common.{length}
use Rattle.ov_plain.proofs.steps.+targets_from.Given as goal

abbrev pub decreases-targets_from : goal.decreases-targets_from
decreases-targets_from l = length l.targets.now
