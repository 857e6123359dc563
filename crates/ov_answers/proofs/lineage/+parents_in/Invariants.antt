use Rattle.std.proofs.Common.{length}
use Rattle.ov_answers.proofs.lineage.+parents_in.Given as goal

abbrev pub decreases-parents_in : goal.decreases-parents_in
decreases-parents_in l = length l.versions.now
