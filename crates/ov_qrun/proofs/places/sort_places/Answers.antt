use Rattle.std.proofs.Common.{rules}
use Rattle.std.specs.Ordering.{is_lt}
use Rattle.std.proofs.lemmas.Cmp.{on_total}
use Rattle.std.proofs.lemmas.Fn.{always_returns_same}
use Rattle.std.proofs.lemmas.List.MinMax.{ranks_by}
use Rattle.ov_qrun.specs.Keys.{cells_in, place_order}
use Rattle.ov_qrun.proofs.CellKinds.{keys-total}
use Rattle.ov_qrun.proofs.Sorting.{one-sort}
use Rattle.ov_qrun.proofs.places.sort_places.Goals as goal

pub returns : goal.returns
returns c =
    let order = c.args.order.now in
    let total = on_total cells_in (keys-total order) in
    one-sort (place_order order) total _ _
    (c.in_ok-sort_by.ensures.sorted (λ a b. is_lt (place_order order a b)) (ranks_by total (λ place. place)) (always_returns_same _ _ _ (λ a r q k. search rules)))
    (c.in_ok-sort_by.ensures.stable (λ a b. is_lt (place_order order a b)) (ranks_by total (λ place. place)) (always_returns_same _ _ _ (λ a r q k. search rules)))
