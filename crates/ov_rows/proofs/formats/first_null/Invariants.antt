use Rattle.std.proofs.Common.{◌≡◌, ◌+◌, drop}
use Rattle.ov_model.specs.Act.{null_row}
use Rattle.ov_rows.proofs.formats.first_null.Given as goal

abbrev pub invariant-loop-i : goal.invariant-loop-i
invariant-loop-i l = null_row 1 l.rows ≡ null_row (l.i + 1) (drop l.i l.rows)
