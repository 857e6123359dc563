use Rattle.std.proofs.Common.{◌≡◌, ◌-◌, ◌++◌, length, take}
use Rattle.ov_value.specs.Spelling.{low_bytes}
use Rattle.ov_value.proofs.writing.push_low_bytes.Given as goal

abbrev pub invariant-loop : goal.invariant-loop
invariant-loop l =
    (l.bytes.items ++ low_bytes (l.count - l.counter) l.rest ≡ l.initial.bytes.items ++ low_bytes l.count l.number)
    × (take (length l.initial.bytes.items) l.bytes.items ≡ l.initial.bytes.items)
