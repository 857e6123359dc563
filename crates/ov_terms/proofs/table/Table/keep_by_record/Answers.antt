-- Each place is taken where the guard holds of it alone.
use Rattle.ov_terms.specs.Finding.{is_taken}
use Rattle.ov_terms.proofs.Spots.{kept-all, kept-more}
use Rattle.ov_terms.proofs.table.Table.keep_by_record.Goals as goal

pub loop-place-preserved : goal.loop-place-preserved
loop-place-preserved c =
    rw c.in_ok-push_if.ensures
    (kept-more (is_taken c.args.guard.now) c.args.self.now c.loop-place.kept.items c.args.vid c.args.places.now c.loop-place.place-index _
    c.is_taken-taken.result _ c.loop-place-test.true c.is_taken-taken.ensures c.loop-place.invariant)

pub returns : goal.returns
returns c =
    kept-all (is_taken c.args.guard.now) c.args.self.now c.loop-place.kept.items c.args.vid c.args.places.now c.loop-place.place-index _
    c.loop-place-test.false c.loop-place.invariant
