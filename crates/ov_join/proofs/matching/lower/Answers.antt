-- What is below a row stands in front of what isn't.
use Rattle.std.proofs.Common.{List, rules, subst, sym}
use Rattle.std.specs.Ordering.{is_lt}
use Rattle.std.proofs.lemmas.Cmp.{on_total}
use Rattle.std.proofs.lemmas.List.Sorted.{IsPartitionPoint-from_clause}
use Rattle.ov_model.specs.declared.answer.Cell.{Cell}
use Rattle.ov_terms.specs.declared.spot.Spot.{Spot}
use Rattle.ov_qrun.specs.Keys.{spot_order}
use Rattle.ov_qrun.specs.Ranking.{ranked_lists}
use Rattle.ov_qrun.proofs.CellKinds.{lists-total}
use Rattle.ov_qrun.proofs.Sorting.{Rises, sorted-rises}
use Rattle.ov_join.specs.Partnering.{row_key, row_order, row_spot}
use Rattle.ov_join.proofs.Searching.{partitioned}
use Rattle.ov_join.proofs.matching.lower.Goals as goal

pub returns-clause-point : goal.returns-clause-point
returns-clause-point c =
    let right = c.args.right.now in
    let key : Spot → List Cell = row_key right in
    let order = spot_order right.table right.cols.items in
    let total = on_total key lists-total in
    IsPartitionPoint-from_clause (λ spot. is_lt (row_order c.args.left.now right c.args.place spot)) c.args.sorted.now c.partition_point.result
    c.partition_point.ensures.partitioned
    (partitioned ranked_lists lists-total (row_key c.args.left.now (row_spot c.args.place)) key total c.args.sorted.now
    (subst (Rises order) (sym c.requires.sorted.is) (sorted-rises order total c.requires.sorted.all)))
    (λ a r f k. search rules)
