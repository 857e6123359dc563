-- Why texts or values are no row.
use Rattle.std.specs.Prelude.{ℕ, List, Option, Some, None, Result, Ok, Err}
use Rattle.std.specs.Option.{option_or}
use Rattle.ov_value.specs.Shapes.{Shape}
use Rattle.ov_model.specs.Book.{Row}
use Rattle.ov_model.specs.Csv.{row_in, bad_field, null_key, long_row}
use Rattle.ov_model.specs.declared.refusal.Refusal.{Refusal}

-- the refusal, or else what is had
abbrev pub or_refusal : {X : Type 0} → Option Refusal → X → Result X Refusal
or_refusal None x = Ok x
or_refusal (Some refusal) x = Err refusal

-- why a row of texts is none: its values are faulty
abbrev pub value_refusal : Shape → ℕ → Row → Option Refusal
value_refusal schema nth row = option_or (null_key schema nth 0 schema.columns row) (long_row nth row)

-- why texts, one a column, are no row
abbrev pub text_refusal : Shape → ℕ → List (List ℕ) → Option Refusal
text_refusal schema nth texts = option_or (bad_field nth schema.columns texts) (value_refusal schema nth (row_in schema.columns texts))
