use Rattle.std.proofs.Common.{length}
use Rattle.ov_plain_act.proofs.session.+find_in.Given as goal

abbrev pub decreases-find_in : goal.decreases-find_in
decreases-find_in l = length l.files.now
