use Rattle.std.proofs.Common.{◌≡◌, ◌≤◌, ℕ, true, false, drop, get_or, length, map}
use Rattle.std.specs.List.{flat_map}
use Rattle.ov_catalog.specs.Running.{is_in_target}
use Rattle.ov_catalog.specs.Sets.{part_in, target_in}
use Rattle.ov_catalog.specs.Wholes.{are_sources}
use Rattle.ov_catalog.proofs.whole_plans.are_sources_by.Given as goal

abbrev pub invariant-loop-at : goal.invariant-loop-at
invariant-loop-at l = record {
  within : l.at ≤ length l.targets;
  marks : (vid : ℕ) → get_or l.later vid false ≡ is_in_target (drop l.at l.targets) vid;
  are : are_sources (map part_in l.parts) (flat_map (λ t. t.versions) (map target_in l.targets)) (map target_in (drop l.at l.targets)) ≡ true;
}

abbrev pub decreases-loop-at : goal.decreases-loop-at
decreases-loop-at l = l.at
