use Rattle.std.proofs.Common.{length}
use Rattle.ov_plain.proofs.records.+joined.Given as goal

abbrev pub decreases-joined : goal.decreases-joined
decreases-joined l = length l.pieces.now
