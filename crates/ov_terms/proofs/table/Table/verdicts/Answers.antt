use Rattle.ov_terms.proofs.OfRows.{verdict-more}
use Rattle.ov_terms.proofs.table.Table.verdicts.Goals as goal

pub loop-place-preserved : goal.loop-place-preserved
loop-place-preserved c =
    rw c.in_ok-push.ensures.items
    (verdict-more c.args.guard.now c.args.self.now c.loop-place.made.items c.loop-place.place c.holds.result (rw c.len-place-end.ensures at c.loop-place-test.true)
    (rw c.from_ref.ensures.value at c.holds.ensures) c.loop-place.invariant)
