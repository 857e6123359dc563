use Rattle.std.proofs.Common.{length}
use Rattle.ov_plain.proofs.plans.+places_from.Given as goal

abbrev pub decreases-places_from : goal.decreases-places_from
decreases-places_from l = length l.pieces.now
