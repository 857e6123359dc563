use Rattle.std.proofs.Common.{◌≡◌, take}
use Rattle.ov_model.specs.Answers.{Pair, group_key}
use Rattle.ov_qrun.specs.Keys.{key_in}
use Rattle.ov_qrun.proofs.plan.find_cols.Given as goal

-- the columns before have the values that they have by their names
abbrev pub invariant-loop-col : goal.invariant-loop-col
invariant-loop-col l = (pair : Pair) → key_in l.found.items pair ≡ group_key l.shape (take l.col-index l.cols) pair
