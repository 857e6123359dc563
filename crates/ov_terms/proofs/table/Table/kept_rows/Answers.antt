-- Each row is taken where the guard holds of it alone.
use Rattle.ov_terms.specs.Finding.{is_taken}
use Rattle.ov_terms.proofs.Spots.{row-more, rows-all}
use Rattle.ov_terms.proofs.table.Table.kept_rows.Goals as goal

pub loop-place-preserved : goal.loop-place-preserved
loop-place-preserved c =
    rw c.in_ok-push_if.ensures
    (row-more (is_taken c.args.guard.now) c.args.self.now c.loop-place.kept.items c.loop-place.place c.holds.result _
    (rw c.len-place-end.ensures at c.loop-place-test.true) (rw c.from_ref.ensures.value at c.holds.ensures) c.loop-place.invariant)

pub returns : goal.returns
returns c =
    rows-all (is_taken c.args.guard.now) c.args.self.now c.loop-place.kept.items c.loop-place.place _
    (rw c.len-place-end.ensures at c.loop-place-test.false) c.loop-place.invariant
