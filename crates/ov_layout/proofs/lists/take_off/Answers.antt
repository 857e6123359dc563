use Rattle.std.proofs.Common.{◌≡◌, ◌<◌, ℕ, List, false, ltb, length, get_or, rules, sym, ◌∙◌, ap, subst, arith}
use Rattle.std.proofs.lemmas.Bool.{ne_eqb}
use Rattle.std.proofs.lemmas.List.{get_or_default}
use Rattle.std.proofs.lemmas.List.Sorted.{IsPartitionPoint-from_clause, IsPartitionedBy-ltb}
use Rattle.ov_layout.specs.Parts.{has, Ascend}
use Rattle.ov_layout.proofs.VidLemmas.{ids-ordered, among-point, among-past}
use Rattle.ov_layout.proofs.TakenLemmas.{one-off, others-all}
use Rattle.ov_layout.proofs.lists.take_off.Goals.{else-at-len-via-then-at-len+else-index-vid, else-at-len-via-else-at-len}
use Rattle.ov_layout.proofs.lists.take_off.Goals as goal

pub returns-then-index-vid : goal.returns-then-index-vid
returns-then-index-vid c =
    let list = c.args.list.now.items in
    let at = c.partition_point-at.result in
    let lt = c.if-at-len.true in
    let len = c.args.list.now.ok.0 in
    let long = c.len.ensures in
    let inside : at < length list = omega (arith, lt, len, long) in
    let is : get_or list at 0 ≡ c.args.vid = get_or_default list at 0 c.index.result.now inside ∙ sym c.index.ensures ∙ c.if-index-vid.true in
    c.remove.ensures.by_index.2 ∙ one-off 0 list at c.args.vid c.requires inside is

pub returns-else-at-len : goal.returns-else-at-len
returns-else-at-len c =
    let now = c.deref.result.now in
    let list = c.args.list.now.items in
    let vid = c.args.vid in
    let at = c.partition_point-at.result in
    let up : Ascend 0 now = rw c.deref.ensures.value c.requires in
    let parted = IsPartitionedBy-ltb (λ n. n) now vid (ids-ordered now 0 up) in
    let point = IsPartitionPoint-from_clause (λ x. ltb x vid) now _ c.partition_point-at.ensures.partitioned parted (λ a r q k. search rules) in
    let size : length now ≡ length list = ap (λ (xs : List ℕ). length xs) c.deref.ensures.value in
    let len = c.args.list.now.ok.0 in
    let long = c.len.ensures in
    let out : has now vid ≡ false = elim c.else-at-len.branch [
      | else-at-len-via-then-at-len+else-index-vid w ↦
          let lt = w.if-at-len.true in
          let here : get_or now at 0 ≡ get_or list at 0 = ap (λ (xs : List ℕ). get_or xs at 0) c.deref.ensures.value in
          let other = w.if-index-vid.false in
          let inside : at < length list = omega (arith, lt, len, long) in
          sym (among-point now vid at up point (omega (arith, lt, size, len, long))) ∙ ne_eqb (get_or now at 0) vid (λ e. other (w.index.ensures ∙ sym (get_or_default list at 0 w.index.result.now inside) ∙ sym here ∙ e))
      | else-at-len-via-else-at-len w ↦
          let past = w.if-at-len.false in
          among-past now vid at up point (omega (arith, past, size, len, long))
    ] in
    sym (others-all list vid (subst (λ (xs : List ℕ). has xs vid ≡ false) c.deref.ensures.value out))
