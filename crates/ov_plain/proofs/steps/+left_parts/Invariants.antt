use Rattle.std.proofs.Common.{length}
use Rattle.ov_plain.proofs.steps.+left_parts.Given as goal

abbrev pub decreases-left_parts : goal.decreases-left_parts
decreases-left_parts l = length l.parts.now
