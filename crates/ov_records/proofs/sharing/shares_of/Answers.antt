use Rattle.std.proofs.Common.{◌≡◌, ◌+◌, ◌++◌, List, [], ◌∷◌, length, replicate, map, take, drop, sym, ◌∙◌, ap, rules, arith}
use Rattle.std.specs.Prelude.{None}
use Rattle.std.specs.List.{zip}
use Rattle.std.proofs.lemmas.List.{map-append, take_all, take_more, take-append-drop, drop_more}
use Rattle.ov_segment.specs.declared.numbered.Record.{Record}
use Rattle.ov_model.specs.Assigned.{assigned, rid_by}
use Rattle.ov_records.specs.Records.{pairs_of, lists_of, shared}
use Rattle.ov_records.specs.Found.{or_found, shared_found}
use Rattle.ov_records.proofs.Finds.{none_found, or_found_more, shared_is, written}
use Rattle.ov_records.proofs.sharing.shares_of.Goals as goal

pub loop-parent-init : goal.loop-parent-init
loop-parent-init c = record {
  found = c.in_ok-found.ensures.items_if_clones_equal (λ y h. search rules) ∙ ap (λ n. replicate n None) c.len.ensures.count ∙ none_found c.args.rows.now;
  weights = λ next. c.in_ok-weights.ensures.items;
}

pub loop-parent-preserved : goal.loop-parent-preserved
loop-parent-preserved c =
    let parents : List (List Record) = c.args.parents.now in
    let i = c.loop-parent.parent-index in
    let rows = c.args.rows.now in
    let parent = c.parent-item.result in
    let before = lists_of (take i parents) in
    let later = lists_of (drop (i + 1) parents) in
    let more : take (i + 1) parents ≡ take i parents ++ parent ∷ [] =
    take_more parents i parent c.loop-parent-test.true ∙ ap (λ x. take i parents ++ x ∷ []) (sym c.parent-item.is) in
    let lists : lists_of (take (i + 1) parents) ≡ before ++ pairs_of parent ∷ [] =
    ap lists_of more ∙ map-append pairs_of (take i parents) (parent ∷ []) in
    let one : c.share.new.found ≡ or_found c.loop-parent.found.items rows (pairs_of parent) =
    c.share.ensures.found ∙ ap (λ l. or_found l rows (pairs_of parent)) c.as_mut_slice.ensures.value in
    let found : c.share.new.found ≡ map (rid_by (before ++ pairs_of parent ∷ [])) rows =
    one ∙ ap (λ l. or_found l rows (pairs_of parent)) c.loop-parent.invariant.found ∙ or_found_more before (pairs_of parent) rows in
    let whole : lists_of parents ≡ before ++ pairs_of parent ∷ later =
    ap lists_of (sym (take-append-drop i parents)) ∙ map-append pairs_of (take i parents) (drop i parents)
    ∙ ap (λ l. before ++ lists_of l) (drop_more parents i parent c.loop-parent-test.true ∙ ap (λ x. x ∷ drop (i + 1) parents) (sym c.parent-item.is)) in
    record {
      found =
          written c.loop-parent.found.len c.loop-parent.found.items c.share.new.found (c.share.auto.found ∙ ap length c.as_mut_slice.ensures.value) (omega (arith, c.loop-parent.found.ok))
          ∙ found ∙ ap (λ ps. map (rid_by ps) rows) (sym lists);
      weights = λ next.
          let all = assigned rows (lists_of parents) next in
          let weight : c.share.result ≡ shared (zip all rows) (pairs_of parent) =
          c.share.ensures.weight ∙ ap (λ l. shared_found (pairs_of parent) l rows) found ∙ shared_is before later (pairs_of parent) rows next
          ∙ ap (λ ps. shared (zip (assigned rows ps next) rows) (pairs_of parent)) (sym whole) in
          c.in_ok-push.ensures.items
          ∙ ap (λ l. l ++ c.share.result ∷ []) (c.loop-parent.invariant.weights next)
          ∙ ap (λ w. map (shared (zip all rows)) before ++ w ∷ []) weight
          ∙ sym (ap (map (shared (zip all rows))) lists ∙ map-append (shared (zip all rows)) before (pairs_of parent ∷ []));
    }

pub returns-clause-weights : goal.returns-clause-weights
returns-clause-weights c = λ next.
    c.loop-parent.invariant.weights next
    ∙ ap (λ ps. map (shared (zip (assigned c.args.rows.now (lists_of c.args.parents.now) next) c.args.rows.now)) (lists_of ps))
    (take_all c.loop-parent.parent-index c.args.parents.now c.loop-parent-test.false)
