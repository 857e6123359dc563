use Rattle.std.proofs.Common.{◌≡◌, take}
use Rattle.ov_segment.specs.Tables.{places_in}
use Rattle.ov_segment.proofs.table.places_at.Given as goal

abbrev pub invariant-loop-i : goal.invariant-loop-i
invariant-loop-i l = l.found.items ≡ places_in l.places (take l.i-index l.order)
