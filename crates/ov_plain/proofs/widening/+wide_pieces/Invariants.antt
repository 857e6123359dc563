use Rattle.std.proofs.Common.{length}
use Rattle.ov_plain.proofs.widening.+wide_pieces.Given as goal

abbrev pub decreases-wide_pieces : goal.decreases-wide_pieces
decreases-wide_pieces l = length l.pieces.now
