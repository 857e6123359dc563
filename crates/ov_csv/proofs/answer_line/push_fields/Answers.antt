use Rattle.ov_csv.proofs.CellFields.{none-left, split}
use Rattle.ov_csv.proofs.LineLemmas.{writes_more, writes_all}
use Rattle.ov_csv.proofs.answer_line.push_fields.Goals as goal

pub returns-in-None : goal.returns-in-None
returns-in-None c =
    writes_all c.args.text.now.items _ c.loop-place.place _ c.loop-place.text.items c.loop-place.invariant (none-left c.args.kinds.now c.args.cells.now c.loop-place.place c.in-None.ensures.lookup.3)

pub loop-place-preserved : goal.loop-place-preserved
loop-place-preserved c =
    writes_more c.args.text.now.items _ c.loop-place.place _ _ _ c.loop-place.text.items c.push_one.new.text.items c.loop-place.invariant
    (split c.args.kinds.now c.args.cells.now c.loop-place.place c.in-Some.cell.now c.loop-place-test.true c.in-Some.ensures.lookup.3.0 c.in-Some.ensures.lookup.1)
    c.in_ok-push_one-in-Some.ensures
