use Rattle.std.proofs.Common.{◌≡◌, ◌≤◌, ◌^◌, drop}
use Rattle.ov_catalog.specs.Planning.{ascend_from}
use Rattle.ov_catalog.proofs.in_order.ascend_from.Given as goal

abbrev pub invariant-loop-number : goal.invariant-loop-number
invariant-loop-number l = record {
  same : ascend_from l.least l.numbers ≡ ascend_from l.low (drop l.number-index l.numbers);
  few : l.low ≤ 2 ^ 32;
}
