use Rattle.std.proofs.Common.{◌≡◌, All, map}
use Rattle.std.specs.List.{range_with_len}
use Rattle.ov_budget.specs.Sizes.{IsSized}
use Rattle.ov_budget.specs.Tables.{line_at}
use Rattle.ov_budget.proofs.thresholds.table.Given as goal

abbrev pub invariant-loop-before : goal.invariant-loop-before
invariant-loop-before l = record {
  lines_are : l.lines.items ≡ map (line_at l.tree.nodes.items l.lists) (range_with_len 1 l.before);
  sizes : All (IsSized l.lists) l.sized.items;
}
