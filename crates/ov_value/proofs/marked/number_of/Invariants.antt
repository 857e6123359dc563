use Rattle.std.proofs.Common.{◌≡◌, ◌-◌, drop, length}
use Rattle.ov_value.specs.Reading.{low_number}
use Rattle.ov_value.proofs.marked.number_of.Given as goal

abbrev pub invariant-loop-i : goal.invariant-loop-i
invariant-loop-i l = l.number ≡ low_number (drop (length l.bytes - l.i) l.bytes)
