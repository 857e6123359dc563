use Rattle.std.proofs.Common.{◌≡◌, ◌+◌, ◌≤◌, ◌++◌, take, drop, length, vec_capacity}
use Rattle.ov_layout.specs.Leaving.{gone_from}
use Rattle.ov_layout.proofs.GoneLemmas.{stored_gone}
use Rattle.ov_layout.proofs.flips.give_up.Given as goal

abbrev pub invariant-loop-part : goal.invariant-loop-part
invariant-loop-part l = record {
  sum : l.gone ≡ stored_gone (take l.part-index l.part-items);
  given : l.freed.items ++ gone_from l.source l.kept (drop l.part-index l.part-items) ≡ l.fn.freed.items ++ gone_from l.source l.kept l.part-items;
  room : length l.freed.items + length (gone_from l.source l.kept (drop l.part-index l.part-items)) ≤ vec_capacity l.freed;
}
