use Rattle.std.proofs.Common.{length}
use Rattle.ov_plain_act.proofs.planning.+stored_in.Given as goal

abbrev pub decreases-stored_in : goal.decreases-stored_in
decreases-stored_in l = length l.parts.now
