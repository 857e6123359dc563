use Rattle.std.proofs.Common.{◌≡◌, ◌≤◌, ℕ, true, false, drop, get_or, length, map}
use Rattle.ov_catalog.specs.Running.{is_in_target}
use Rattle.ov_catalog.specs.Sets.{target_in}
use Rattle.ov_catalog.specs.Wholes.{are_targets}
use Rattle.ov_catalog.proofs.whole_plans.are_targets_by.Given as goal

abbrev pub invariant-loop-at : goal.invariant-loop-at
invariant-loop-at l = record {
  within : l.at ≤ length l.targets;
  marks : (vid : ℕ) → get_or l.seen vid false ≡ is_in_target (drop l.at l.targets) vid;
  are : are_targets (length l.d.versions.items) l.d.records (map target_in (drop l.at l.targets)) ≡ true;
}

abbrev pub decreases-loop-at : goal.decreases-loop-at
decreases-loop-at l = l.at
