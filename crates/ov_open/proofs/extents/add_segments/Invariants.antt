use Rattle.std.proofs.Common.{◌≡◌, ◌++◌, flat_map, take}
use Rattle.ov_open.proofs.extents.add_segments.Given as goal

abbrev pub invariant-loop-part : goal.invariant-loop-part
invariant-loop-part l = l.extents.items ≡ l.initial.extents.items ++ flat_map (λ part. part.segments) (take l.part-index l.parts)
