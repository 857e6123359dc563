use Rattle.std.proofs.Common.{length}
use Rattle.ov_answers.proofs.truth.+is_one_version.Given as goal

abbrev pub decreases-is_one_version : goal.decreases-is_one_version
decreases-is_one_version l = length l.vids.now
