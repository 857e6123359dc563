use Rattle.std.proofs.Common.{◌≡◌, ◌∙◌, ap, sym, length, Some}
use Rattle.ov_model.specs.Csv.{row_in}
use Rattle.ov_model.specs.declared.refusal.Refusal.TheVariants as refusal
use Rattle.ov_csv.proofs.Rows.{row_in-length}
use Rattle.ov_csv.proofs.NullKeys.{no_null, null_found, has_value, no_key}
use Rattle.ov_csv.proofs.records.refuse_null_key.Goals.{else-is_null_at-via-then-is_null_at+else-is_key, else-is_null_at-via-else-is_null_at}
use Rattle.ov_csv.proofs.records.refuse_null_key.Goals as goal

pub returns-then-not-has_null-clause-none : goal.returns-then-not-has_null-clause-none
returns-then-not-has_null-clause-none c =
    let schema = c.args.schema.now in
    no_null schema c.args.row 0 schema.columns (row_in schema.columns c.args.texts.now) (sym (c.has_null.ensures _ c.requires.holds) ∙ c.if-not-has_null.true)

pub returns-then-is_key-clause-err : goal.returns-then-is_key-clause-err
returns-then-is_key-clause-err c =
    let schema = c.args.schema.now in
    let values = row_in schema.columns c.args.texts.now in
    let width : length values ≡ length schema.columns = row_in-length schema.columns c.args.texts.now c.requires.width in
    c.loop-place.invariant
    ∙ null_found schema c.args.row schema.columns values c.loop-place.place c.column-item.result
    (rw (← c.columns-column-items.ensures.columns) c.loop-place-test.true) width (rw (← c.columns-column-items.ensures.columns) c.column-item.is) _ _ c.is_null_at.ensures c.is_key.ensures c.if-is_null_at.true c.if-is_key.true
    ∙ ap (λ name. Some (refusal.NullKey c.args.row name)) (sym c.in_ok-copy.ensures.ok)

pub loop-place-preserved : goal.loop-place-preserved
loop-place-preserved c =
    let schema = c.args.schema.now in
    let values = row_in schema.columns c.args.texts.now in
    let width : length values ≡ length schema.columns = row_in-length schema.columns c.args.texts.now c.requires.width in
    elim c.else-is_null_at.branch [
      | else-is_null_at-via-then-is_null_at+else-is_key w ↦
          c.loop-place.invariant
          ∙ no_key schema c.args.row schema.columns values c.loop-place.place c.column-item.result
          (rw (← c.columns-column-items.ensures.columns) c.loop-place-test.true) width (rw (← c.columns-column-items.ensures.columns) c.column-item.is) _ w.is_key.ensures w.if-is_key.false
      | else-is_null_at-via-else-is_null_at w ↦
          c.loop-place.invariant
          ∙ has_value schema c.args.row schema.columns values c.loop-place.place c.column-item.result
          (rw (← c.columns-column-items.ensures.columns) c.loop-place-test.true) width (rw (← c.columns-column-items.ensures.columns) c.column-item.is) _ c.is_null_at.ensures w.if-is_null_at.false
    ]
