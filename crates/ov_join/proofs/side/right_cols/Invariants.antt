use Rattle.std.proofs.Common.{◌≡◌, take}
use Rattle.ov_model.specs.Answers.{Pair}
use Rattle.ov_qrun.specs.Keys.{key_in}
use Rattle.ov_join.specs.Meeting.{right_key}
use Rattle.ov_join.proofs.side.right_cols.Given as goal

-- the columns before have the values that they have by their names
abbrev pub invariant-loop-names : goal.invariant-loop-names
invariant-loop-names l = (pair : Pair) → key_in l.found.items pair ≡ right_key l.shape (take l.names-index l.on) pair
