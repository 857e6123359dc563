use Rattle.std.proofs.Common.{◌≡◌, take}
use Rattle.ov_catalog.specs.Events.{chosen}
use Rattle.ov_migrate.proofs.keeping.kept_segments.Given as goal

abbrev pub invariant-loop-place : goal.invariant-loop-place
invariant-loop-place l = l.found.items ≡ chosen (take l.place-index l.kept) l.segments
