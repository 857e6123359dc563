use Rattle.std.proofs.Common.{◌≡◌, ◌≢◌, ◌<◌, length, Some, true, false, sym, ◌∙◌, ap, subst, arith}
use Rattle.std.specs.declared.cmp.Ordering.TheVariants.{Greater}
use Rattle.ov_value.specs.Rows.{HasKinds, key_cmp}
use Rattle.ov_model.specs.Records.{is_same_row}
use Rattle.ov_records.specs.Found.{has_found, leaves_to}
use Rattle.ov_records.specs.Records.{pairs_of, has_record}
use Rattle.ov_records.proofs.Passes.{none, at, fit_at, looked_none, looked_on, looked_same, looked_found, looked_up, looked_above, is_greater, isnt_greater}
use Rattle.ov_records.proofs.meeting.meet.Goals.{then-is_same+else-is_or_none, else-is_same+else-eq}
use Rattle.ov_records.proofs.meeting.meet.Goals as goal

pub loop-place-init : goal.loop-place-init
loop-place-init c = looked_none c.args.schema.now c.args.parent.now c.args.row.now c.args.found c.args.passed c.requires.below

pub is_same-requires : goal.is_same-requires
is_same-requires c = (
  c.args.schema.now.columns,
  c.requires.row.kinds,
  subst (λ r. HasKinds r c.args.schema.now.columns) (sym (c.row-record.ensures none))
      (fit_at c.args.schema.now c.args.parent.now c.loop-place.place c.requires.fit (omega (arith, c.loop-place-test.true, c.len-place-end.ensures.count))).kinds,
)

pub returns-then-is_or_none-clause-rid : goal.returns-then-is_or_none-clause-rid
returns-then-is_or_none-clause-rid c =
    let row = c.args.row.now in
    let place = c.loop-place.place in
    let one = at c.args.parent.now place in
    let within : place < length c.args.parent.now = omega (arith, c.loop-place-test.true, c.len-place-end.ensures.count) in
    let same : is_same_row row one.row ≡ true = ap (is_same_row row) (sym (c.row-record.ensures none)) ∙ sym c.is_same.ensures ∙ c.if-is_same.true in
    let rid : c.rid-rid.result ≡ one.rid = c.rid-rid.ensures none in
    let leaves : leaves_to c.args.found one.rid ≡ true = ap (leaves_to c.args.found) (sym rid) ∙ sym c.is_or_none.ensures ∙ c.if-is_or_none.true in
    ap Some rid ∙ (looked_found c.args.schema.now c.args.parent.now row c.args.found place within c.loop-place.invariant same leaves).rid_is

pub returns-then-is_or_none-clause-shared : goal.returns-then-is_or_none-clause-shared
returns-then-is_or_none-clause-shared c =
    let row = c.args.row.now in
    let place = c.loop-place.place in
    let one = at c.args.parent.now place in
    let within : place < length c.args.parent.now = omega (arith, c.loop-place-test.true, c.len-place-end.ensures.count) in
    let same : is_same_row row one.row ≡ true = ap (is_same_row row) (sym (c.row-record.ensures none)) ∙ sym c.is_same.ensures ∙ c.if-is_same.true in
    let rid : c.rid-rid.result ≡ one.rid = c.rid-rid.ensures none in
    let leaves : leaves_to c.args.found one.rid ≡ true = ap (leaves_to c.args.found) (sym rid) ∙ sym c.is_or_none.ensures ∙ c.if-is_or_none.true in
    (looked_found c.args.schema.now c.args.parent.now row c.args.found place within c.loop-place.invariant same leaves).shared_is
    ∙ ap (λ n. has_record (pairs_of c.args.parent.now) (n, c.args.row.now)) (sym rid)

pub returns-then-is_or_none-clause-passed : goal.returns-then-is_or_none-clause-passed
returns-then-is_or_none-clause-passed c =
    let row = c.args.row.now in
    let place = c.loop-place.place in
    let one = at c.args.parent.now place in
    let within : place < length c.args.parent.now = omega (arith, c.loop-place-test.true, c.len-place-end.ensures.count) in
    let same : is_same_row row one.row ≡ true = ap (is_same_row row) (sym (c.row-record.ensures none)) ∙ sym c.is_same.ensures ∙ c.if-is_same.true in
    looked_up c.args.schema.now c.args.parent.now row c.args.found place within c.loop-place.invariant same

pub returns-then-eq-clause-rid : goal.returns-then-eq-clause-rid
returns-then-eq-clause-rid c =
    let row = c.args.row.now in
    let place = c.loop-place.place in
    let one = at c.args.parent.now place in
    let within : place < length c.args.parent.now = omega (arith, c.loop-place-test.true, c.len-place-end.ensures.count) in
    let greater : key_cmp c.args.schema.now one.row row ≡ Greater = ap (λ r. key_cmp c.args.schema.now r c.args.row.now) (sym (c.row-record.ensures none)) ∙ sym c.cmp_key.ensures ∙ is_greater c.cmp_key.result c.eq.result c.eq.ensures c.if-eq.true in
    c.missed.ensures.rid ∙ (looked_above c.args.schema.now c.args.parent.now row c.args.found place within c.loop-place.invariant c.requires.order greater).rid_is

pub returns-then-eq-clause-shared : goal.returns-then-eq-clause-shared
returns-then-eq-clause-shared c =
    let row = c.args.row.now in
    let place = c.loop-place.place in
    let one = at c.args.parent.now place in
    let within : place < length c.args.parent.now = omega (arith, c.loop-place-test.true, c.len-place-end.ensures.count) in
    let greater : key_cmp c.args.schema.now one.row row ≡ Greater = ap (λ r. key_cmp c.args.schema.now r c.args.row.now) (sym (c.row-record.ensures none)) ∙ sym c.cmp_key.ensures ∙ is_greater c.cmp_key.result c.eq.result c.eq.ensures c.if-eq.true in
    c.missed.ensures.shared
    ∙ (looked_above c.args.schema.now c.args.parent.now row c.args.found place within c.loop-place.invariant c.requires.order greater).shared_is
    ∙ ap (λ f. has_found (pairs_of c.args.parent.now) f c.args.row.now) (sym c.missed.ensures.rid)

pub loop-place-preserved : goal.loop-place-preserved
loop-place-preserved c =
    let row = c.args.row.now in
    let place = c.loop-place.place in
    let one = at c.args.parent.now place in
    let within : place < length c.args.parent.now = omega (arith, c.loop-place-test.true, c.len-place-end.ensures.count) in
    elim c.if-is_same.branch [
      | then-is_same+else-is_or_none w ↦
          let same : is_same_row row one.row ≡ true = ap (is_same_row row) (sym (c.row-record.ensures none)) ∙ sym c.is_same.ensures ∙ w.if-is_same.true in
          let other : leaves_to c.args.found one.rid ≡ false = ap (leaves_to c.args.found) (sym (w.rid-rid.ensures none)) ∙ sym w.is_or_none.ensures ∙ w.if-is_or_none.false in
          looked_same c.args.schema.now c.args.parent.now row c.args.found place within c.loop-place.invariant same other
      | else-is_same+else-eq w ↦
          let other : is_same_row row one.row ≡ false = ap (is_same_row row) (sym (c.row-record.ensures none)) ∙ sym c.is_same.ensures ∙ w.if-is_same.false in
          looked_on c.args.schema.now c.args.parent.now row c.args.found place within c.loop-place.invariant other
          (subst (λ o. o ≢ Greater) (w.cmp_key.ensures ∙ ap (λ r. key_cmp c.args.schema.now r c.args.row.now) (c.row-record.ensures none)) (isnt_greater w.cmp_key.result w.eq.result w.eq.ensures w.if-eq.false))
    ]
