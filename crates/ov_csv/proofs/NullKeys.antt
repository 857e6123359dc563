-- The first key column that is NULL, and what then is refused of a row.
use Rattle.std.proofs.Common.{◌≡◌, ◌<◌, ◌≤◌, ◌+◌, ◌&&◌, ◌||◌, ◌∷◌, ◌∙◌, [], ℕ, List, Bool, Some, None, refl, sym, ap, true, false, length, drop, get_or, nat_eq, arith}
use Rattle.std.specs.Prelude.{if◌then◌else◌}
use Rattle.std.specs.List.{list_all, list_any}
use Rattle.std.specs.Str.{is_utf8}
use Rattle.std.proofs.lemmas.Bool.{eq-eqb, lt-ltb, le-ltb}
use Rattle.std.proofs.lemmas.List.{drop_more}
use Rattle.ov_value.specs.declared.column.Column.{Column}
use Rattle.ov_value.specs.declared.value.Value.TheVariants.{Null}
use Rattle.ov_value.specs.Rows.{is_null, value_at}
use Rattle.ov_value.specs.Shapes.{Shape}
use Rattle.ov_value.specs.Spelling.{row_spelling}
use Rattle.ov_model.specs.Book.{Row}
use Rattle.ov_model.specs.Csv.{bad_field, long_row, null_key, row_in, row_refusal}
use Rattle.ov_model.specs.declared.refusal.Refusal.TheVariants.{LongRow, NullKey}

pub no_null : (schema : Shape) (nth place : ℕ) (columns : List Column) (values : Row) → list_any is_null values ≡ false → null_key schema nth place columns values ≡ None
no_null schema nth place [] values e = refl
no_null schema nth place (column ∷ columns) [] e = refl
no_null schema nth place (column ∷ columns) (value ∷ values) e =
    elim (is_null value) as (λ b.
    (b || list_any is_null values) ≡ false → (if b && list_any (nat_eq place) schema.key then Some (NullKey nth column.name) else null_key schema nth (place + 1) columns values) ≡ None) [
      | true ↦ λ h. cc
      | false ↦ λ h. no_null schema nth (place + 1) columns values h
    ] e

-- at a place
module _ (schema : Shape) (nth : ℕ) (columns : List Column) (values : Row) (place : ℕ) (column : Column) (here : place < length columns) (width : length values ≡ length columns) (is : column ≡ get_or columns place column) where
  step : null_key schema nth place (drop place columns) (drop place values)
      ≡ (if is_null (value_at values place) && list_any (nat_eq place) schema.key then Some (NullKey nth column.name) else null_key schema nth (place + 1) (drop (place + 1) columns) (drop (place + 1) values))
  step =
      (λ i. null_key schema nth place ((drop_more columns place column here ∙ ap (λ (c : Column). c ∷ drop (place + 1) columns) (sym is)) i) (drop_more values place Null (omega (arith, here, width)) i))

  pub null_found : (n k : Bool) → n ≡ is_null (value_at values place) → k ≡ list_any (nat_eq place) schema.key → n ≡ true → k ≡ true
      → null_key schema nth place (drop place columns) (drop place values) ≡ Some (NullKey nth column.name)
  null_found n k null key p q = step ∙ rw (← null, ← key, p, q) refl

  pub has_value : (n : Bool) → n ≡ is_null (value_at values place) → n ≡ false
      → null_key schema nth place (drop place columns) (drop place values) ≡ null_key schema nth (place + 1) (drop (place + 1) columns) (drop (place + 1) values)
  has_value n null p = step ∙ rw (← null, p) refl

  pub no_key : (k : Bool) → k ≡ list_any (nat_eq place) schema.key → k ≡ false
      → null_key schema nth place (drop place columns) (drop place values) ≡ null_key schema nth (place + 1) (drop (place + 1) columns) (drop (place + 1) values)
  no_key k key q = step ∙ by (is_null (value_at values place))
    where
      by : (b : Bool) → (if b && list_any (nat_eq place) schema.key then Some (NullKey nth column.name) else null_key schema nth (place + 1) (drop (place + 1) columns) (drop (place + 1) values)) ≡ null_key schema nth (place + 1) (drop (place + 1) columns) (drop (place + 1) values)
      by true = rw (← key, q) refl
      by false = refl

-- of a row with as many texts as columns, each of which spells a value, and no key is NULL
module _ (schema : Shape) (nth : ℕ) (fields : List (List ℕ)) (width : length fields ≡ length schema.columns) (text : list_all is_utf8 fields ≡ true) (good : bad_field nth schema.columns fields ≡ None) (keyed : null_key schema nth 0 schema.columns (row_in schema.columns fields) ≡ None) where
  only_long : row_refusal schema nth fields ≡ long_row nth (row_in schema.columns fields)
  only_long = rw (eq-eqb (length fields) (length schema.columns) width, text, good, keyed) refl

  pub row_long : 65536 < length (row_spelling (row_in schema.columns fields)).bytes → row_refusal schema nth fields ≡ Some (LongRow nth)
  row_long more = only_long ∙ rw (lt-ltb 65536 (length (row_spelling (row_in schema.columns fields)).bytes) more) refl

  pub row_good : length (row_spelling (row_in schema.columns fields)).bytes ≤ 65536 → row_refusal schema nth fields ≡ None
  row_good few = only_long ∙ rw (le-ltb 65536 (length (row_spelling (row_in schema.columns fields)).bytes) few) refl
