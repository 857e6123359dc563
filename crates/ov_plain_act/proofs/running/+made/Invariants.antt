use Rattle.std.proofs.Common.{length}
use Rattle.ov_plain_act.proofs.running.+made.Given as goal

abbrev pub decreases-made : goal.decreases-made
decreases-made l = length l.moves.now
