use Rattle.std.proofs.Common.{length}
use Rattle.ov_plain.proofs.tree.+members.Given as goal

abbrev pub decreases-members : goal.decreases-members
decreases-members l = length l.part.now
