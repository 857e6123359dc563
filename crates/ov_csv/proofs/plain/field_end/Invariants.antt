use Rattle.std.proofs.Common.{◌≡◌, ◌+◌, drop}
use Rattle.ov_csv.specs.Plain.{field_end}
use Rattle.ov_csv.proofs.plain.field_end.Given as goal

abbrev pub invariant-loop-i : goal.invariant-loop-i
invariant-loop-i l = field_end l.bytes ≡ l.i + field_end (drop l.i l.bytes)
