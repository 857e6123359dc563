use Rattle.std.proofs.Common.{◌≡◌, ◌≤◌, ◌^◌, drop}
use Rattle.ov_layout.specs.Index.{numbers_of}
use Rattle.ov_catalog.specs.Planning.{ascend_from}
use Rattle.ov_catalog.proofs.in_order.are_in_order.Given as goal

abbrev pub invariant-loop-part : goal.invariant-loop-part
invariant-loop-part l = record {
  same : ascend_from 1 (numbers_of l.parts) ≡ ascend_from l.low (numbers_of (drop l.part-index l.parts));
  few : l.low ≤ 2 ^ 32;
}
