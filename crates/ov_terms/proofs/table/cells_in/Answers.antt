use Rattle.std.proofs.Common.{◌∙◌, ap, arith}
use Rattle.ov_model.specs.Answers.{row_cells}
use Rattle.ov_terms.proofs.Joined.{record-row}
use Rattle.ov_terms.proofs.table.cells_in.Goals as goal

pub returns : goal.returns
returns c =
    c.from_vec.ensures ∙ (rw (c.new-cells.ensures.items, c.cells.ensures) at c.in_ok-push_cells.ensures)
    ∙ ap row_cells (record-row c.args.records.now c.args.at c.row.result (omega (arith, c.if-at-len.false, c.len.ensures.count)) c.row.ensures)
