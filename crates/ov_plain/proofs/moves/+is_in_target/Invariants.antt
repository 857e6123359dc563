use Rattle.std.proofs.Common.{length}
use Rattle.ov_plain.proofs.moves.+is_in_target.Given as goal

abbrev pub decreases-is_in_target : goal.decreases-is_in_target
decreases-is_in_target l = length l.targets.now
