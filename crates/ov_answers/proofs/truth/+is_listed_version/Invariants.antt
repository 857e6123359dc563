use Rattle.std.proofs.Common.{length}
use Rattle.ov_answers.proofs.truth.+is_listed_version.Given as goal

abbrev pub decreases-is_listed_version : goal.decreases-is_listed_version
decreases-is_listed_version l = length l.vids.now
