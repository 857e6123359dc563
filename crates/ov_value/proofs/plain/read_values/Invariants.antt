use Rattle.ov_value.proofs.Columns.{HasRead}
use Rattle.ov_value.proofs.plain.read_values.Given as goal

abbrev pub invariant-loop-column : goal.invariant-loop-column
invariant-loop-column l = HasRead l.columns l.nulls l.bytes l.column-index l.values.items l.marks l.rest
