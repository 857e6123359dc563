use Rattle.std.proofs.Common.{◌≡◌, ◌+◌, ◌++◌, drop}
use Rattle.ov_records.specs.Found.{numbered, new_among}
use Rattle.ov_records.proofs.numbering.number.Given as goal

abbrev pub invariant-loop-one : goal.invariant-loop-one
invariant-loop-one l = record {
  so_far : l.rids.items ++ numbered (drop l.one-index l.found) l.free ≡ numbered l.found l.next;
  left : l.free + new_among (drop l.one-index l.found) ≡ l.next + new_among l.found;
}
