use Rattle.std.proofs.Common.{◌≡◌, map, take}
use Rattle.ov_segment.specs.Tables.{moved_by}
use Rattle.ov_segment.proofs.table.moved_places.Given as goal

abbrev pub invariant-loop-place : goal.invariant-loop-place
invariant-loop-place l = l.moved.items ≡ map (moved_by l.base) (take l.place-index l.places)
