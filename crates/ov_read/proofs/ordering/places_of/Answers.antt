use Rattle.std.proofs.Common.{◌≡◌, ◌<◌, ◌≤◌, ◌+◌, ℕ, List, true, false, length, get_or, sym, ◌∙◌, ap, rules, arith}
use Rattle.std.proofs.lemmas.List.{append-nil}
use Rattle.std.proofs.lemmas.List.Elements.{All-push}
use Rattle.ov_member.specs.Edges.{status}
use Rattle.ov_member.specs.Rids.{has}
use Rattle.ov_segment.specs.declared.numbered.Record.{Record}
use Rattle.ov_segment.specs.Keeping.{Walk}
use Rattle.ov_fetch.proofs.Gathered.{same_default}
use Rattle.ov_read.proofs.PickFacts.{line_more}
use Rattle.ov_read.proofs.Walking.{SaysFrom, no_record, says_on}
use Rattle.ov_read.proofs.ordering.places_of.Goals.{then-is_inside+in_ok-push, else-is_inside}
use Rattle.ov_read.proofs.ordering.places_of.Goals as goal

pub loop-place-preserved : goal.loop-place-preserved
loop-place-preserved c =
    let records : List Record = c.args.records.now.records in
    let rids : List ℕ = c.args.rids.now in
    let k : ℕ = c.loop-place.place in
    let places : List ℕ = c.loop-place.places.items in
    let low : k < length records = search rules in
    let r : Record = get_or records k no_record in
    let here : r ≡ get_or records k r = same_default records k no_record r low in
    let are = c.loop-place.invariant in
    let ahead : Walk = record { inside = c.loop-place.ahead.inside; edges = c.loop-place.ahead.edges } in
    let after : Walk = record { inside = c.at-ahead.result.inside; edges = c.at-ahead.result.edges } in
    let same : k ≤ k = omega arith in
    let inside : c.at-ahead.result.inside ≡ has rids r.rid =
    c.at-ahead.ensures.inside ∙ ap (λ n. status ahead.inside ahead.edges n) (c.rid.ensures no_record) ∙ are.2 k same low in
    let says : SaysFrom after rids records (k + 1) = says_on ahead after rids records k c.rid.result c.requires low (c.rid.ensures no_record) are.2 c.at-ahead.ensures.ahead in
    elim c.if-is_inside.branch [
      | then-is_inside+in_ok-push w ↦
          rw (w.places-is, w.in_ok-push.ensures.items)
          (line_more records rids k r true places low here (sym inside ∙ sym c.is_inside.ensures ∙ w.if-is_inside.true) are.0, All-push (λ p. p < length records) places k are.1 low, says)
      | else-is_inside w ↦ rw w.places-is (sym (append-nil places) ∙ line_more records rids k r false places low here (sym inside ∙ sym c.is_inside.ensures ∙ w.if-is_inside.false) are.0, are.1, says)
    ]
