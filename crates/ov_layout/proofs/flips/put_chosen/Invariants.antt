use Rattle.std.proofs.Common.{◌≡◌, ◌+◌, ◌≤◌, ◌++◌, take, length, vec_capacity}
use Rattle.ov_layout.specs.Flips.{chosen}
use Rattle.ov_layout.proofs.flips.put_chosen.Given as goal

abbrev pub invariant-loop-place : goal.invariant-loop-place
invariant-loop-place l = record {
  put : l.list.items ≡ l.fn.list.items ++ chosen (take l.place-index l.places) l.extents;
  room : length l.fn.list.items + length l.places ≤ vec_capacity l.list;
}
