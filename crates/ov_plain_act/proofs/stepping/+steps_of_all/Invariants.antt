use Rattle.std.proofs.Common.{length}
use Rattle.ov_plain_act.proofs.stepping.+steps_of_all.Given as goal

abbrev pub decreases-steps_of_all : goal.decreases-steps_of_all
decreases-steps_of_all l = length l.sets.now
