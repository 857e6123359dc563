use Rattle.std.proofs.Common.{◌≡◌, ◌∙◌, None, ap}
use Rattle.ov_value.specs.Making.{column_refusal, key_refusal}
use Rattle.ov_value.specs.Plans.{plan_of}
use Rattle.ov_value.proofs.SchemaLemmas.{column_none, sound-new}
use Rattle.ov_value.proofs.schema.Schema.new.Goals as goal

pub places_of-requires : goal.places_of-requires
places_of-requires c =
    let passed : column_refusal c.as_slice-4.result.now ≡ None = rw (c.as_slice-4.ensures.value, ← c.as_slice.ensures.value) c.in_ok-check_columns.ensures.ok in
    (column_none c.as_slice-4.result.now passed).few

pub of-requires : goal.of-requires
of-requires c =
    let passed : column_refusal c.as_slice-6.result.now ≡ None = rw (c.as_slice-6.ensures.value, ← c.as_slice.ensures.value) c.in_ok-check_columns.ensures.ok in
    (column_none c.as_slice-6.result.now passed).few

-- what is not refused is sound
pub invariant_of-result : goal.invariant_of-result
invariant_of-result c =
    let columns_pass : column_refusal c.args.columns.items ≡ None = rw (← c.as_slice.ensures.value) c.in_ok-check_columns.ensures.ok in
    let key_passes : key_refusal c.args.columns.items c.args.key.items ≡ None = rw (← c.as_slice-2.ensures.value, ← c.as_slice-3.ensures.value) c.in_ok-check_key.ensures.ok in (
      rw (c.in_ok-places.ensures, c.as_slice-4.ensures.value, c.as_slice-5.ensures.value) (sound-new c.args.columns.items c.args.key.items columns_pass key_passes),
      c.in_ok-plan.ensures ∙ ap plan_of c.as_slice-6.ensures.value,
    )
