use Rattle.std.proofs.Common.{length}
use Rattle.ov_answers.proofs.pairing.+pairs_with.Given as goal

abbrev pub decreases-pairs_with : goal.decreases-pairs_with
decreases-pairs_with l = length l.rows.now
