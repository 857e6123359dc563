use Rattle.std.proofs.Common.{◌≡◌, map, take}
use Rattle.ov_catalog.specs.Raw.{raw_target}
use Rattle.ov_catalog.specs.Sets.{target_in}
use Rattle.ov_catalog.proofs.snapshots.targets_of.Given as goal

abbrev pub invariant-loop-t : goal.invariant-loop-t
invariant-loop-t l = map raw_target l.said.items ≡ map target_in (take l.t-index l.targets)
