use Rattle.std.proofs.Common.{◌≡◌, ◌++◌, ◌∷◌, [], ◌∙◌}
use Rattle.std.specs.List.{flat_map, list_any}
use Rattle.std.proofs.lemmas.Grind.{flat_map-append}
use Rattle.std.proofs.lemmas.List.{append-nil}
use Rattle.ov_value.specs.declared.value.Value.TheVariants.{Null}
use Rattle.ov_value.specs.Rows.{is_null}
use Rattle.ov_value.specs.Spelling.{row_spelling, kept, mark_bytes, value_bytes}
use Rattle.ov_value.proofs.KeptLemmas.{kept-push_null}
use Rattle.ov_value.proofs.laws.null_at_the_end.Goals as goal

pub returns : goal.returns
unfolding row_spelling
returns c row =
    let same : kept (row ++ Null ∷ []) ≡ kept row = kept-push_null row in
    let bytes : flat_map value_bytes (row ++ Null ∷ []) ≡ flat_map value_bytes row = flat_map-append value_bytes row (Null ∷ []) ∙ append-nil (flat_map value_bytes row) in
    λ i. record { marked = list_any is_null (same i); bytes = mark_bytes (same i) ++ bytes i }
