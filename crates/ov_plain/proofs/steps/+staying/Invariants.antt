use Rattle.std.proofs.Common.{length}
use Rattle.ov_plain.proofs.steps.+staying.Given as goal

abbrev pub decreases-staying : goal.decreases-staying
decreases-staying l = length l.versions.now
