use Rattle.std.proofs.Common.{◌≡◌, ◌<◌, ◌++◌, List, length, sym, ◌∙◌, ap, subst, take, arith}
use Rattle.std.specs.Prelude.{Some}
use Rattle.std.specs.BTreeMap.{get, Updates}
use Rattle.std.specs.Option.{option_map}
use Rattle.std.specs.Ordering.{nat_cmp}
use Rattle.std.proofs.lemmas.List.{get_or_default, take_all}
use Rattle.std.proofs.lemmas.Option.{same_Some, none-some}
use Rattle.ov_value.specs.Rows.{HasKinds}
use Rattle.ov_segment.specs.declared.numbered.Record.{Record}
use Rattle.ov_model.specs.Book.{Row}
use Rattle.ov_model.specs.Lists.{IsIn}
use Rattle.ov_model.specs.Records.{is_same_row}
use Rattle.ov_records.specs.Records.{pairs_of}
use Rattle.ov_records.proofs.Passes.{none, at, fit_at, same_test}
use Rattle.ov_parents.specs.Seeing.{Maps}
use Rattle.ov_parents.proofs.Seen.{clash, maps_more, pairs_more, seen_fit}
use Rattle.ov_parents.proofs.disagreeing.see.Goals.{in-Some+else-not-same, in_default}
use Rattle.ov_parents.proofs.disagreeing.see.Goals as goal

pub returns-then-not-same-clause-clash : goal.returns-then-not-same-clause-clash
returns-then-not-same-clause-clash c = λ schema before maps fits more e.
    let records = c.args.records.now in
    let k = c.loop-i.i in
    let r = at records k in
    let low : k < length records = omega (arith, c.loop-i-test.true, c.len-i-end.ensures.count) in
    let old = c.in-Some.old in
    let seen = before ++ pairs_of (take k records) in
    let was : IsIn (before ++ pairs_of (take k records)) (c.rid.result, old) =
    (c.loop-i.invariant schema before maps fits more c.rid.result old).0 (ap (option_map (λ x. x)) (sym c.in_ok-old.ensures.old ∙ c.in-Some.is)) in
    let here = subst (λ x. HasKinds x schema.columns) (sym (c.row-row.ensures none)) (fit_at schema records k more low).kinds in
    let test = same_test c.same.result old c.row-row.result (c.same.ensures schema.columns (seen_fit schema before k records fits more c.rid.result old was).kinds here) in
    clash records k r low (get_or_default records k none r low) c.requires.once before old (subst (λ rid. IsIn (before ++ pairs_of (take k records)) (rid, old)) (c.rid.ensures none) was)
    (ap (is_same_row old) (sym (c.row-row.ensures none)) ∙ sym test ∙ c.if-not-same.true)

pub loop-i-preserved : goal.loop-i-preserved
loop-i-preserved c = λ schema before maps fits more.
    let records = c.args.records.now in
    let k = c.loop-i.i in
    let r = at records k in
    let low : k < length records = omega (arith, c.loop-i-test.true, c.len-i-end.ensures.count) in
    let so_far = c.loop-i.invariant schema before maps fits more in
    let is = c.in_ok-old.ensures in
    let updates : Updates nat_cmp c.loop-i.seen c.insert.new.self (at c.args.records.now c.loop-i.i).rid (Some (at c.args.records.now c.loop-i.i).row) =
    subst (λ rid. Updates nat_cmp c.loop-i.seen c.insert.new.self rid (Some (at c.args.records.now c.loop-i.i).row)) (c.rid.ensures none)
    (subst (λ (v : Row). Updates nat_cmp c.loop-i.seen c.insert.new.self c.rid.result (Some v)) (c.row.ensures none) is.updates) in
    subst (Maps (λ x. x) c.insert.new.self) (pairs_more records k r low (get_or_default records k none r low) before)
    (maps_more (λ x. x) c.loop-i.seen c.insert.new.self (before ++ pairs_of (take k records)) r.rid r.row so_far updates
    (λ row found.
    elim c.match-branch-2.branch [
      | in-Some+else-not-same w ↦
          let old = w.in-Some.old in
          let there = ap (option_map (λ x. x)) (sym is.old ∙ w.in-Some.is) in
          let was = (so_far c.rid.result old).0 there in
          let same : old ≡ row = same_Some old row (sym there ∙ ap (λ rid. option_map (λ x. x) (get nat_cmp c.loop-i.seen rid)) (c.rid.ensures none) ∙ found) in
          let here = subst (λ x. HasKinds x schema.columns) (sym (c.row-row.ensures none)) (fit_at schema records k more low).kinds in
          let test = w.same.ensures schema.columns (seen_fit schema before k records fits more c.rid.result old was).kinds here in
          sym same ∙ test.0 (w.if-not-same.false) ∙ c.row-row.ensures none
      | in_default w ↦
          absurd (none-some row (ap (option_map (λ x. x)) (sym w.in_default.is ∙ is.old) ∙ ap (λ rid. option_map (λ x. x) (get nat_cmp c.loop-i.seen rid)) (c.rid.ensures none) ∙ found))
    ]))

pub returns-clause-seen : goal.returns-clause-seen
returns-clause-seen c = λ schema before maps fits more e.
    subst (λ (l : List Record). Maps (λ r. r) c.loop-i.seen (before ++ pairs_of l)) (take_all c.loop-i.i c.args.records.now (omega (arith, c.loop-i-test.false, c.len-i-end.ensures.count)))
    (c.loop-i.invariant schema before maps fits more)
