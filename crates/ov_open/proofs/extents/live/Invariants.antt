use Rattle.std.proofs.Common.{◌≡◌, flat_map, map, take}
use Rattle.ov_catalog.specs.Extents.{of_set}
use Rattle.ov_catalog.specs.Sets.{set_in}
use Rattle.ov_open.proofs.extents.live.Given as goal

abbrev pub invariant-loop-d : goal.invariant-loop-d
invariant-loop-d l = l.extents.items ≡ flat_map of_set (map set_in (take l.d-index l.d-items))
