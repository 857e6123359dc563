use Rattle.std.proofs.Common.{◌≡◌, ◌-◌, drop, length}
use Rattle.ov_value.specs.Spelling.{marks}
use Rattle.ov_value.proofs.kept.marks_of.Given as goal

abbrev pub invariant-loop-i : goal.invariant-loop-i
invariant-loop-i l = l.number ≡ marks (drop (length l.values - l.i) l.values)
