use Rattle.std.proofs.Common.{◌≡◌, map, take}
use Rattle.ov_catalog.specs.Sets.{set_in}
use Rattle.ov_read.specs.Agreement.{list_of}
use Rattle.ov_read.proofs.grouping.extents_of.Given as goal

abbrev pub invariant-loop-vid : goal.invariant-loop-vid
invariant-loop-vid l = l.extents.items ≡ map (list_of (set_in l.d)) (take l.vid-index l.vids)
