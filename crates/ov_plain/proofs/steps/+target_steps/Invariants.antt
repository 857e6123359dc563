use Rattle.std.proofs.Common.{length}
use Rattle.ov_plain.proofs.steps.+target_steps.Given as goal

abbrev pub decreases-target_steps : goal.decreases-target_steps
decreases-target_steps l = length l.targets.now
