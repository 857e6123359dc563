-- The test is that of the definition.
use Rattle.std.proofs.Common.{inl, inr, sym, ◌∙◌}
use Rattle.std.proofs.lemmas.Bool.{cases_Bool, true≢false}
use Rattle.std.proofs.lemmas.Str.{is_utf8-from_IsUtf8}
use Rattle.ov_csv.proofs.Ascii.{no-text}
use Rattle.ov_csv.proofs.texts.is_utf8_field.Goals as goal

pub returns : goal.returns
returns c = elim (cases_Bool c.is_text.result) [
  | inl t ↦ t ∙ sym (is_utf8-from_IsUtf8 _ (c.is_text.ensures.0 t))
  | inr f ↦ f ∙ sym (no-text _ (λ u. true≢false (sym (c.is_text.ensures.1 u) ∙ f)))
]
