use Rattle.std.proofs.Common.{◌≡◌, ◌++◌, length}
use Rattle.ov_registry.proofs.rows.own_row.Given as goal

-- the values so far, and behind them those that are left
abbrev pub invariant-loop-cell : goal.invariant-loop-cell
invariant-loop-cell l = l.fn.cells ≡ l.values.items ++ l.left

abbrev pub decreases-loop-cell : goal.decreases-loop-cell
decreases-loop-cell l = length l.left
