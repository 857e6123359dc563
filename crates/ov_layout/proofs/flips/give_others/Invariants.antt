use Rattle.std.proofs.Common.{◌≡◌, ◌+◌, ◌≤◌, ◌++◌, drop, length, vec_capacity}
use Rattle.ov_layout.specs.Flips.{others}
use Rattle.ov_layout.proofs.flips.give_others.Given as goal

abbrev pub invariant-loop-place : goal.invariant-loop-place
invariant-loop-place l = record {
  given : l.freed.items ++ others l.place l.kept (drop l.place l.extents) ≡ l.fn.freed.items ++ others 0 l.kept l.extents;
  room : length l.freed.items + length (others l.place l.kept (drop l.place l.extents)) ≤ vec_capacity l.freed;
  capacity : vec_capacity l.fn.freed ≤ vec_capacity l.freed;
}
