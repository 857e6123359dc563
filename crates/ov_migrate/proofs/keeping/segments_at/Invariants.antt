use Rattle.std.proofs.Common.{◌≡◌, drop, map}
use Rattle.ov_catalog.specs.Events.{segments_at}
use Rattle.ov_catalog.specs.Sets.{part_in}
use Rattle.ov_migrate.proofs.keeping.segments_at.Given as goal

abbrev pub invariant-loop-part : goal.invariant-loop-part
invariant-loop-part l = segments_at l.id (map part_in l.parts) ≡ segments_at l.id (map part_in (drop l.part-index l.parts))
