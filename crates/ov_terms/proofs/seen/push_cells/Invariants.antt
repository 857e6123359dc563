use Rattle.std.proofs.Common.{◌≡◌, ◌++◌, length}
use Rattle.ov_model.specs.Answers.{row_cells}
use Rattle.ov_terms.proofs.seen.push_cells.Given as goal

-- the cells so far, and behind them those of the values that are left
abbrev pub invariant-loop-cell : goal.invariant-loop-cell
invariant-loop-cell l = l.fn.cells.items ++ row_cells l.fn.row ≡ l.cells.items ++ row_cells l.left

abbrev pub decreases-loop-cell : goal.decreases-loop-cell
decreases-loop-cell l = length l.left
