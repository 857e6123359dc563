use Rattle.ov_value.proofs.CellLemmas.{can_row}
use Rattle.ov_value.proofs.cells.Cells.of.Goals as goal

pub invariant_of-result : goal.invariant_of-result
invariant_of-result c =
    rw (c.marks_and_body-nulls.ensures.nulls, c.marks_and_body-nulls.ensures.body) (can_row c.args.columns.now c.args.marked c.args.bytes.now c.requires.row)
