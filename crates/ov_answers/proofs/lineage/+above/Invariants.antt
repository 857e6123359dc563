use Rattle.std.proofs.Common.{◌+◌, ◌*◌, ◌^◌, length}
use Rattle.ov_answers.proofs.lineage.+above.Given as goal

-- a step up is as much as all parents of a version and more
abbrev pub decreases-is_above_one : goal.decreases-is_above_one
decreases-is_above_one l = l.steps * 2 ^ 65 + (length l.parents.now + 1)

abbrev pub decreases-is_above_in : goal.decreases-is_above_in
decreases-is_above_in l = l.steps * 2 ^ 65
