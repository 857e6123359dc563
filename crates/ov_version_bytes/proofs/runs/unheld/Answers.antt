use Rattle.std.proofs.Common.{◌≡◌, ◌≤◌, ◌++◌, ◌∷◌, [], true, false, take, get_or, sym, ◌∙◌, ap, arith}
use Rattle.std.proofs.lemmas.List.{append-nil}
use Rattle.ov_member.specs.Rids.{has}
use Rattle.ov_version_bytes.specs.Positions.{left_of}
use Rattle.ov_version_bytes.proofs.Ordering.{none, left_more}
use Rattle.ov_version_bytes.proofs.runs.unheld.Goals.{then-not-is_inside+in_ok-push, else-not-is_inside}
use Rattle.ov_version_bytes.proofs.runs.unheld.Goals as goal

pub loop-one-preserved : goal.loop-one-preserved
loop-one-preserved c =
    let held = c.args.held.now in
    let records = c.args.records.now in
    let i = c.loop-one.one-index in
    let rid = (get_or records i none).rid in
    let inside : c.at-ahead.result.inside ≡ has held rid =
    c.at-ahead.ensures.inside ∙ c.loop-one.invariant.says i rid (omega arith) c.loop-one-test.true (omega arith)
    in record {
      so_far = elim c.if-not-is_inside.branch [
        | then-not-is_inside+in_ok-push w ↦
            let off : has held rid ≡ false = sym inside ∙ sym c.is_inside.ensures ∙ w.if-not-is_inside.true in
            ap (λ v. v.items) w.left-is ∙ w.in_ok-push.ensures.items ∙ ap (λ xs. xs ++ get_or records i none ∷ []) c.loop-one.invariant.so_far ∙ sym (left_more held records i false c.loop-one-test.true off)
        | else-not-is_inside w ↦
            let there : has held rid ≡ true = sym inside ∙ sym c.is_inside.ensures ∙ w.if-not-is_inside.false in
            ap (λ v. v.items) w.left-is ∙ c.loop-one.invariant.so_far ∙ sym (append-nil (left_of held (take i records))) ∙ sym (left_more held records i true c.loop-one-test.true there)
      ];
      says = λ k n from low above.
          let rise : rid ≤ (get_or records k none).rid = c.requires i k none (omega (arith, from)) low in
          c.at-ahead.ensures.ahead n (omega (arith, rise, above)) ∙ c.loop-one.invariant.says k n (omega (arith, from)) low above;
    }
