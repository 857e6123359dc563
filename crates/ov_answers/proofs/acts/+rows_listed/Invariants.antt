use Rattle.std.proofs.Common.{length}
use Rattle.ov_answers.proofs.acts.+rows_listed.Given as goal

abbrev pub decreases-rows_listed : goal.decreases-rows_listed
decreases-rows_listed l = length l.vids.now
