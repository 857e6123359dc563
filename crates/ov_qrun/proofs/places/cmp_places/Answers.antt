-- The first key that tells the places apart decides.
use Rattle.std.proofs.Common.{◌∙◌, ap, sym, drop, map}
use Rattle.ov_terms.specs.Seeing.{cell_of}
use Rattle.ov_qrun.specs.Keys.{cells_in}
use Rattle.ov_qrun.specs.Ranking.{first_cell}
use Rattle.ov_qrun.proofs.Ordering.{decides, found-by, goes-on, is-tied, not-tied}
use Rattle.ov_qrun.proofs.places.cmp_places.Goals as goal

pub returns-then-ne : goal.returns-then-ne
returns-then-ne c =
    let at = c.loop-at.at in
    let key = c.index-order-at.result in
    decides c.args.order.now (cells_in c.args.a.now) (cells_in c.args.b.now) at key c.cmp_key-found.result _ c.loop-at-test.true
    (found-by c.args.order.now (cells_in c.args.a.now) (cells_in c.args.b.now) at key _ _ c.cmp_key-found.result c.cmp_key-found.ensures
    (c.key_at.ensures ∙ ap (λ l. first_cell (drop at (map cell_of l))) c.as_slice.ensures.value)
    (c.key_at-in-loop-at.ensures ∙ ap (λ l. first_cell (drop at (map cell_of l))) c.as_slice-in-loop-at.ensures.value) c.index-order-at.is)
    c.loop-at.invariant (not-tied c.cmp_key-found.result (sym c.if-ne.true ∙ c.ne.ensures))

pub loop-at-preserved : goal.loop-at-preserved
loop-at-preserved c =
    let at = c.loop-at.at in
    let key = c.index-order-at.result in
    goes-on c.args.order.now (cells_in c.args.a.now) (cells_in c.args.b.now) at key c.cmp_key-found.result _ c.loop-at-test.true
    (found-by c.args.order.now (cells_in c.args.a.now) (cells_in c.args.b.now) at key _ _ c.cmp_key-found.result c.cmp_key-found.ensures
    (c.key_at.ensures ∙ ap (λ l. first_cell (drop at (map cell_of l))) c.as_slice.ensures.value)
    (c.key_at-in-loop-at.ensures ∙ ap (λ l. first_cell (drop at (map cell_of l))) c.as_slice-in-loop-at.ensures.value) c.index-order-at.is)
    c.loop-at.invariant (is-tied c.cmp_key-found.result (sym c.if-ne.false ∙ c.ne.ensures))
