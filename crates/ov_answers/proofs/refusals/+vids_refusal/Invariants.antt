use Rattle.std.proofs.Common.{length}
use Rattle.ov_answers.proofs.refusals.+vids_refusal.Given as goal

abbrev pub decreases-vids_refusal : goal.decreases-vids_refusal
decreases-vids_refusal l = length l.vids.now
