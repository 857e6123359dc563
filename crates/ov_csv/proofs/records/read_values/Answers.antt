use Rattle.ov_value.specs.Cells.{value_of}
use Rattle.ov_csv.proofs.Rows.{so_far_more}
use Rattle.ov_csv.proofs.records.read_values.Goals as goal

pub loop-place-preserved : goal.loop-place-preserved
loop-place-preserved c =
    so_far_more c.columns-columns.result.now c.args.texts.now c.loop-place.place c.index-columns-place.result c.loop-place-test.true (rw c.columns-columns.ensures.columns c.requires) c.index-columns-place.is
    c.args.row c.loop-place.draft c.push.new.self (value_of c.in-Some.cell) c.loop-place.invariant (rw (← c.at.ensures) c.in-Some.ensures) (λ values h. c.in_ok-push-in-Some.ensures values h)
