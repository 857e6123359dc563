use Rattle.std.proofs.Common.{length}
use Rattle.ov_plain.proofs.placement.+heaviest.Given as goal

abbrev pub decreases-heaviest : goal.decreases-heaviest
decreases-heaviest l = length l.edges.now
