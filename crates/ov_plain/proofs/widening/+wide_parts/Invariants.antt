use Rattle.std.proofs.Common.{length}
use Rattle.ov_plain.proofs.widening.+wide_parts.Given as goal

abbrev pub decreases-wide_parts : goal.decreases-wide_parts
decreases-wide_parts l = length l.parts.now
