use Rattle.std.proofs.Common.{length}
use Rattle.ov_answers.proofs.pairing.+all_pairs.Given as goal

abbrev pub decreases-all_pairs : goal.decreases-all_pairs
decreases-all_pairs l = length l.vids.now
