use Rattle.std.proofs.Common.{length}
use Rattle.ov_plain.proofs.trees.+copies_of_lists.Given as goal

abbrev pub decreases-copies_of_lists : goal.decreases-copies_of_lists
decreases-copies_of_lists l = length l.lists.now
