use Rattle.std.proofs.Common.{length}
use Rattle.ov_plain_act.proofs.world.+first_named.Given as goal

abbrev pub decreases-first_named : goal.decreases-first_named
decreases-first_named l = length l.sets.now
