use Rattle.std.proofs.Common.{length}
use Rattle.ov_plain_act.proofs.small.+have_place.Given as goal

abbrev pub decreases-have_place : goal.decreases-have_place
decreases-have_place l = length l.sets.now
