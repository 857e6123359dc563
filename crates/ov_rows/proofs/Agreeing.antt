-- The refusals are those of the model.
use Rattle.std.proofs.Common.{◌≡◌, ℕ, ◌+◌, Bool, true, false, List, [], ◌∷◌, length, Option, Some, None, refl, sym, ◌∙◌, ap}
use Rattle.std.specs.Prelude.{◌==◌, nat_lt, if◌then◌else◌}
use Rattle.std.specs.Option.{option_map, option_or, option_and_then}
use Rattle.ov_value.specs.Shapes.{Shape}
use Rattle.ov_model.specs.Act.{if_so, repeated_key, null_row, format_refusal, rows_refusal}
use Rattle.ov_model.specs.Book.{Row}
use Rattle.ov_model.specs.Merge.{has_key}
use Rattle.ov_model.specs.World.{World}
use Rattle.ov_model.specs.declared.refusal.Refusal.{Refusal}
use Rattle.ov_model.specs.declared.refusal.Refusal.TheVariants as no
use Rattle.ov_rows.specs.declared.rows_err.RowsErr.{RowsErr}
use Rattle.ov_rows.specs.declared.rows_err.RowsErr.TheVariants.{TooManyRows, DuplicateKey, FormatOne, Memory}
use Rattle.ov_rows.specs.Refusing.{first_repeat, null_off, rows_off, refusal_of}

repeated : (schema : Shape) (before : List Row) (nth : ℕ) (rows : List Row) → repeated_key schema before nth rows ≡ option_map no.DuplicateKey (first_repeat schema before nth rows)
repeated schema before nth [] = refl
repeated schema before nth (row ∷ rows) = by (has_key schema before row) (repeated schema (row ∷ before) (nth + 1) rows)
  where
    by : (b : Bool) → repeated_key schema (row ∷ before) (nth + 1) rows ≡ option_map no.DuplicateKey (first_repeat schema (row ∷ before) (nth + 1) rows)
        → (if b then Some (no.DuplicateKey nth) else repeated_key schema (row ∷ before) (nth + 1) rows)
        ≡ option_map no.DuplicateKey (if b then Some nth else first_repeat schema (row ∷ before) (nth + 1) rows)
    by true rest = refl
    by false rest = rest

-- the first of the three refusals: too many rows, a repeat, and what format 1 refuses
abbrev refusal : Bool → Option ℕ → Bool → Option ℕ → Bool → Option Refusal
refusal many repeat one null adds =
    option_or (if_so many no.TooManyRows) (option_or (option_map no.DuplicateKey repeat) (if one then format_refusal null adds else None))

abbrev off : Bool → Option ℕ → Bool → Option ℕ → Bool → Option RowsErr
off many repeat one null adds =
    option_or (if many then Some TooManyRows else None) (option_or (option_map DuplicateKey repeat) (if one then null_off null adds else None))

alike : (many : Bool) (repeat : Option ℕ) (one : Bool) (null : Option ℕ) (adds : Bool) → refusal many repeat one null adds ≡ option_and_then refusal_of (off many repeat one null adds)
alike true repeat one null adds = refl
alike false (Some nth) one null adds = refl
alike false None false null adds = refl
alike false None true (Some nth) adds = refl
alike false None true None true = refl
alike false None true None false = refl

not_memory : (many : Bool) (repeat : Option ℕ) (one : Bool) (null : Option ℕ) (adds : Bool) → off many repeat one null adds ≡ Some Memory → ⊥
not_memory true repeat one null adds e = cc
not_memory false (Some nth) one null adds e = cc
not_memory false None false null adds e = cc
not_memory false None true (Some nth) adds e = cc
not_memory false None true None true e = cc
not_memory false None true None false e = cc

none_named : (off : Option RowsErr) → (off ≡ Some Memory → ⊥) → option_and_then refusal_of off ≡ None → off ≡ None
none_named None never e = refl
none_named (Some TooManyRows) never e = cc
none_named (Some (DuplicateKey nth)) never e = cc
none_named (Some (FormatOne nth)) never e = cc
none_named (Some Memory) never e = absurd (never refl)

pub refused_alike : (w : World) (schema : Shape) (adds : Bool) (rows : List Row) → rows_refusal w schema adds rows ≡ option_and_then refusal_of (rows_off w.format schema adds rows)
refused_alike w schema adds rows =
    ap (λ o. option_or (if_so (nat_lt 1000000 (length rows)) no.TooManyRows) (option_or o (if w.format == 1 then format_refusal (null_row 1 rows) adds else None))) (repeated schema [] 1 rows)
    ∙ alike (nat_lt 1000000 (length rows)) (first_repeat schema [] 1 rows) (w.format == 1) (null_row 1 rows) adds

pub never_memory : (format : ℕ) (schema : Shape) (adds : Bool) (rows : List Row) → rows_off format schema adds rows ≡ Some Memory → ⊥
never_memory format schema adds rows e = not_memory (nat_lt 1000000 (length rows)) (first_repeat schema [] 1 rows) (format == 1) (null_row 1 rows) adds e

pub refused_together : (w : World) (schema : Shape) (adds : Bool) (rows : List Row) → (rows_off w.format schema adds rows ≡ None → rows_refusal w schema adds rows ≡ None) × (rows_refusal w schema adds rows ≡ None → rows_off w.format schema adds rows ≡ None)
refused_together w schema adds rows = (
  λ e. refused_alike w schema adds rows ∙ ap (option_and_then refusal_of) e,
  λ e. none_named (rows_off w.format schema adds rows) (never_memory w.format schema adds rows) (sym (refused_alike w schema adds rows) ∙ e),
)
