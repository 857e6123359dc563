use Rattle.std.proofs.Common.{◌≡◌, ◌≤◌, ◌++◌, take, vec_capacity}
use Rattle.std.specs.Prelude.{flat_map}
use Rattle.ov_catalog.proofs.freeing.give_segments.Given as goal

abbrev pub invariant-loop-part : goal.invariant-loop-part
invariant-loop-part l = record {
  given : l.freed.items ≡ l.fn.freed.items ++ flat_map (λ part. part.segments) (take l.part-index l.parts);
  capacity : vec_capacity l.fn.freed ≤ vec_capacity l.freed;
}
