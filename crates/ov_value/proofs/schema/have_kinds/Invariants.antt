use Rattle.std.proofs.Common.{◌↔◌, drop}
use Rattle.ov_value.specs.Rows.{HasKinds}
use Rattle.ov_value.proofs.schema.have_kinds.Given as goal

abbrev pub invariant-loop-i : goal.invariant-loop-i
invariant-loop-i l = HasKinds l.values l.columns ↔ HasKinds (drop l.i l.values) (drop l.i l.columns)
