use Rattle.std.proofs.Common.{length}
use Rattle.ov_plain_act.proofs.committing.+fitting.Given as goal

abbrev pub decreases-fitting : goal.decreases-fitting
decreases-fitting l = length l.vids.now
