use Rattle.std.proofs.Common.{◌≡◌, ◌≤◌, ◌*◌, ◌-◌, ◌^◌, drop, length}
use Rattle.ov_graph.specs.Splits as splits
use Rattle.ov_budget.specs.Sizes.{sizes_said}
use Rattle.ov_budget.proofs.thresholds.line_of.Given as goal

abbrev pub invariant-loop-at : goal.invariant-loop-at
invariant-loop-at l = record {
  within : l.at ≤ length l.sized;
  stored_is : l.stored ≡ splits.stored (sizes_said (drop l.at l.sized));
  cost_is : l.cost ≡ splits.cost (sizes_said (drop l.at l.sized));
  stored_few : l.stored ≤ (length l.sized - l.at) * 2 ^ 32;
  cost_few : l.cost ≤ (length l.sized - l.at) * (65535 * 2 ^ 32);
}

abbrev pub decreases-loop-at : goal.decreases-loop-at
decreases-loop-at l = l.at
