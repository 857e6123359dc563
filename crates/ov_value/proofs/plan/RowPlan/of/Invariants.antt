use Rattle.std.proofs.Common.{◌≡◌, ◌≤◌, ◌*◌, ◌++◌, drop}
use Rattle.ov_value.specs.Plans.{gaps_of, tail_of}
use Rattle.ov_value.proofs.plan.RowPlan.of.Given as goal

abbrev pub invariant-loop-column : goal.invariant-loop-column
invariant-loop-column l = record {
  gaps : l.gaps.items ++ gaps_of (drop l.column-index l.columns) l.before ≡ gaps_of l.columns 0;
  tail : tail_of (drop l.column-index l.columns) l.before ≡ tail_of l.columns 0;
  small : l.before ≤ 8 * l.column-index;
}
