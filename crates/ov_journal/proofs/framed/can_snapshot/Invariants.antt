use Rattle.std.proofs.Common.{◌≡◌, ◌+◌, ◌-◌, ◌^◌, length, take}
use Rattle.std.specs.List.{flat_map}
use Rattle.ov_journal.specs.Bytes.{record_of}
use Rattle.ov_journal.proofs.framed.can_snapshot.Given as goal

abbrev pub invariant-loop-payload : goal.invariant-loop-payload
invariant-loop-payload l = l.left + length (flat_map record_of (take l.payload-index l.payloads)) ≡ 2 ^ 28 - 1
