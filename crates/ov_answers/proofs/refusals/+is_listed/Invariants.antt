use Rattle.std.proofs.Common.{length}
use Rattle.ov_answers.proofs.refusals.+is_listed.Given as goal

abbrev pub decreases-is_listed : goal.decreases-is_listed
decreases-is_listed l = length l.vids.now
