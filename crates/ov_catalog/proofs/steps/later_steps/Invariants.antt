use Rattle.std.proofs.Common.{◌≡◌, ◌≤◌, ◌*◌, ◌-◌, ◌^◌, drop, length, map}
use Rattle.ov_catalog.specs.Sets.{target_in}
use Rattle.ov_catalog.specs.Steps.{later_steps}
use Rattle.ov_catalog.proofs.steps.later_steps.Given as goal

abbrev pub invariant-loop-at : goal.invariant-loop-at
invariant-loop-at l = record {
  within : l.at ≤ length l.targets;
  steps_are : l.steps ≡ later_steps (map target_in (drop l.at l.targets));
  few : l.steps ≤ (length l.targets - l.at) * 2 ^ 25;
}

abbrev pub decreases-loop-at : goal.decreases-loop-at
decreases-loop-at l = l.at
