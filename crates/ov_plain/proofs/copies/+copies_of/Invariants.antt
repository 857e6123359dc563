use Rattle.std.proofs.Common.{length}
use Rattle.ov_plain.proofs.copies.+copies_of.Given as goal

abbrev pub decreases-copies_of : goal.decreases-copies_of
decreases-copies_of g l = length l.items.now
