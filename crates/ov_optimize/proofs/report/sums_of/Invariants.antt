use Rattle.std.proofs.Common.{◌≡◌, ◌≤◌, ◌*◌, ◌-◌, ◌^◌, drop, length}
use Rattle.ov_graph.specs.Splits as splits
use Rattle.ov_lyre.specs.Parts.{lists_of}
use Rattle.ov_optimize.specs.Counting.{sizes_said, steps_said}
use Rattle.ov_optimize.proofs.report.sums_of.Given as goal

abbrev pub invariant-loop-at : goal.invariant-loop-at
invariant-loop-at l = record {
  within : l.at ≤ length l.targets;
  stored_is : l.stored ≡ splits.stored (sizes_said (lists_of (drop l.at l.parts)) (drop l.at l.targets));
  cost_is : l.cost ≡ splits.cost (sizes_said (lists_of (drop l.at l.parts)) (drop l.at l.targets));
  steps_are : l.steps ≡ steps_said (drop l.at l.targets);
  stored_few : l.stored ≤ (length l.targets - l.at) * 2 ^ 32;
  cost_few : l.cost ≤ (length l.targets - l.at) * (65535 * 2 ^ 32);
  steps_few : l.steps ≤ (length l.targets - l.at) * 2 ^ 25;
}

abbrev pub decreases-loop-at : goal.decreases-loop-at
decreases-loop-at l = l.at
