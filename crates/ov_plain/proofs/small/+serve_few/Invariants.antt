use Rattle.std.proofs.Common.{length}
use Rattle.ov_plain.proofs.small.+serve_few.Given as goal

abbrev pub decreases-serve_few : goal.decreases-serve_few
decreases-serve_few l = length l.parts.now
