use Rattle.ov_value.specs.Cells.{value_of}
use Rattle.ov_csv.proofs.LineLemmas.{writes_more, fields_split}
use Rattle.ov_csv.proofs.row_line.push_cells.Goals as goal

pub loop-place-preserved : goal.loop-place-preserved
loop-place-preserved c =
    writes_more c.args.text.now.items _ c.loop-place.place _ _ _ c.loop-place.text.items c.push_cell.new.text.items c.loop-place.invariant
    (fields_split c.args.columns.now c.loop-place.place c.loop-place.rest c.next.new.self c.index-columns-place.result (value_of c.in-Some.cell) c.loop-place-test.true c.index-columns-place.is c.in-Some.ensures)
    c.in_ok-push_cell-in-Some.ensures
