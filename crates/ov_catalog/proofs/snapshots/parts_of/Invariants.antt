use Rattle.std.proofs.Common.{◌≡◌, map, take}
use Rattle.ov_catalog.specs.Raw.{raw_part}
use Rattle.ov_catalog.specs.Sets.{part_in}
use Rattle.ov_catalog.proofs.snapshots.parts_of.Given as goal

abbrev pub invariant-loop-part : goal.invariant-loop-part
invariant-loop-part l = map raw_part l.said.items ≡ map part_in (take l.part-index l.parts)
