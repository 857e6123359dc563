use Rattle.std.proofs.Common.{◌≡◌, ◌++◌, ◌∙◌, None, ap, refl}
use Rattle.ov_value.specs.Making.{column_refusal}
use Rattle.ov_value.specs.Plans.{plan_of}
use Rattle.ov_value.proofs.SchemaLemmas.{column_none, sound-widen}
use Rattle.ov_value.proofs.schema.Schema.widen.Goals as goal

pub of-requires : goal.of-requires
of-requires c =
    let passed : column_refusal c.as_slice-3.result.now ≡ None = rw (c.as_slice-3.ensures.value, ← c.as_slice-2.ensures.value) c.in_ok-check_columns.ensures.ok in
    (column_none c.as_slice-3.result.now passed).few

-- a sound schema stays sound where the columns of the wider one are not refused
pub invariant_of-result : goal.invariant_of-result
invariant_of-result c =
    let same : c.append_copies.new.copies.items ≡ c.self.inside.columns.items ++ c.args.added.now = rw (c.in_ok-append_copies.ensures, c.in_ok-columns.ensures, c.as_slice.ensures.value) refl in
    let passed : column_refusal (c.self.inside.columns.items ++ c.args.added.now) ≡ None = rw (← same, ← c.as_slice-2.ensures.value) c.in_ok-check_columns.ensures.ok in (
      rw (c.in_ok-from_slice.ensures.items, c.as_slice-4.ensures.value, same) (sound-widen _ c.args.added.now c.self.invariant.0 passed),
      c.in_ok-plan.ensures ∙ ap plan_of c.as_slice-3.ensures.value,
    )
