-- A sort, or none where they are in order.
use Rattle.std.proofs.Common.{rules, ◌∙◌, sym}
use Rattle.std.specs.Ordering.{is_lt}
use Rattle.std.proofs.lemmas.Cmp.{on_total}
use Rattle.std.proofs.lemmas.Fn.{always_returns_same}
use Rattle.std.proofs.lemmas.List.MinMax.{ranks_by}
use Rattle.ov_qrun.specs.Keys.{key_at, spot_order}
use Rattle.ov_qrun.proofs.CellKinds.{lists-total}
use Rattle.ov_qrun.proofs.Climbing.{climbs-sorted}
use Rattle.ov_qrun.proofs.Sorting.{one-sort}
use Rattle.ov_qrun.proofs.groups.sort_spots.Goals as goal

pub returns-in_ok-sort_by : goal.returns-in_ok-sort_by
returns-in_ok-sort_by c =
    let records = c.args.table.now in
    let cols = c.args.cols.now in
    let total = on_total (key_at records cols) lists-total in
    one-sort (spot_order records cols) total _ _
    (c.in_ok-sort_by.ensures.sorted (λ a b. is_lt (spot_order records cols a b)) (ranks_by total (λ spot. spot)) (always_returns_same _ _ _ (λ a r q k. search rules)))
    (c.in_ok-sort_by.ensures.stable (λ a b. is_lt (spot_order records cols a b)) (ranks_by total (λ spot. spot)) (always_returns_same _ _ _ (λ a r q k. search rules)))

pub returns-else-not-climb : goal.returns-else-not-climb
returns-else-not-climb c =
    sym (climbs-sorted (spot_order c.args.table.now c.args.cols.now) _ (sym (rw c.as_slice.ensures.value at c.climb.ensures) ∙ c.if-not-climb.false))
