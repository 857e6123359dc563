use Rattle.std.proofs.Common.{◌≡◌, ◌<◌, ◌≤◌, ℕ, true, refl, length, vec_len, vec_capacity, is_ok, get_or, ltb, ltb-true, ltb-false, arith, rules, sym, subst, ap, List, ◌∙◌}
use Rattle.std.proofs.lemmas.List.Sorted.{IsPartitionPoint-from_clause, IsPartitionedBy-ltb}
use Rattle.std.proofs.lemmas.List.{get_or_read_under}
use Rattle.ov_pages.specs.Edges.{Ascend}
use Rattle.ov_pages.proofs.EdgeLemmas.{Ascend-ordered}
use Rattle.ov_pages.proofs.TurnLemmas.{turned-insert, turned-remove}
use Rattle.ov_pages.proofs.edges.turn.Goals.{else-at-len-via-then-at-len+else-index-edge, else-at-len-via-else-at-len}
use Rattle.ov_pages.proofs.edges.turn.Goals as goal

pub returns-then-index-edge-clause-turned : goal.returns-then-index-edge-clause-turned
returns-then-index-edge-clause-turned c =
    let ascend : Ascend 0 c.deref.result.now = subst (Ascend 0) (sym c.deref.ensures.value) c.requires.ascend in
    let parted = IsPartitionedBy-ltb (λ x. x) c.deref.result.now c.args.edge (Ascend-ordered 0 c.deref.result.now ascend) in
    let point = rw c.deref.ensures.value at (IsPartitionPoint-from_clause (λ x. ltb x c.args.edge) c.deref.result.now _ c.partition_point-at.ensures.partitioned parted (λ a r q k. search rules)) in
    let len : vec_len c.args.edges.now ≡ length c.args.edges.now.items = sym c.deref.ensures.len ∙ ap (λ (xs : List ℕ). length xs) c.deref.ensures.value in
    let within : c.partition_point-at.result < length c.args.edges.now.items = omega (arith, len) in
    let here : get_or c.args.edges.now.items c.partition_point-at.result 0 ≡ c.args.edge = sym (get_or_read_under _ _ _ c.index.result.now 0 c.index.ensures within refl) ∙ c.if-index-edge.true in
    c.remove.ensures.items ∙ turned-remove c.args.edge 0 c.args.edges.now.items c.partition_point-at.result c.requires.ascend within here (λ k lt. ltb-true _ _ (point.0 k 0 (omega arith) lt))

pub returns-else-at-len-clause-turned : goal.returns-else-at-len-clause-turned
returns-else-at-len-clause-turned c =
    let ascend : Ascend 0 c.deref.result.now = subst (Ascend 0) (sym c.deref.ensures.value) c.requires.ascend in
    let parted = IsPartitionedBy-ltb (λ x. x) c.deref.result.now c.args.edge (Ascend-ordered 0 c.deref.result.now ascend) in
    let point = rw c.deref.ensures.value at (IsPartitionPoint-from_clause (λ x. ltb x c.args.edge) c.deref.result.now _ c.partition_point-at.ensures.partitioned parted (λ a r q k. search rules)) in
    let len : vec_len c.args.edges.now ≡ length c.args.edges.now.items = sym c.deref.ensures.len ∙ ap (λ (xs : List ℕ). length xs) c.deref.ensures.value in
    let room : vec_len c.args.edges.now < vec_capacity c.args.edges.now = omega (arith, len, c.requires.room) in
    let ok : is_ok c.insert.result ≡ true = c.insert.ensures.succeeds room in
    let bound : c.partition_point-at.result ≤ length c.args.edges.now.items = omega (arith, len, c.partition_point-at.ensures.bound, c.deref.ensures.len) in
    c.insert.ensures.items ∙ rw ok (turned-insert c.args.edge 0 c.args.edges.now.items c.partition_point-at.result c.requires.ascend bound (λ k lt. ltb-true _ _ (point.0 k 0 (omega arith) lt)) (λ lt.
    let least = ltb-false _ _ (point.1 c.partition_point-at.result 0 (omega arith) lt) in
    elim c.else-at-len.branch [
      | else-at-len-via-then-at-len+else-index-edge w ↦
          let here = get_or_read_under _ _ _ w.index.result.now 0 w.index.ensures lt refl in
          let differs = w.if-index-edge.false in
          omega arith
      | else-at-len-via-else-at-len w ↦ omega (arith, len)
    ]))
