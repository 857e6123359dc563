use Rattle.std.proofs.Common.{length}
use Rattle.ov_answers.proofs.refusals.+repeated_key.Given as goal

abbrev pub decreases-repeated_key : goal.decreases-repeated_key
decreases-repeated_key l = length l.rows.now
