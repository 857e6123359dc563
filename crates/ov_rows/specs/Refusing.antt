-- Why the rows of a file are not those of a version.
--     rows_off format schema adds rows      the first that holds: over 1,000,000 rows, a key twice, NULL in a store of format 1
--     IsWhy format schema adds rows why      it is this, or memory was wanting
--     refusal_of why      the refusal by which the model names it
use Rattle.std.specs.Prelude.{◌≡◌, ℕ, ◌+◌, ◌==◌, Bool, nat_lt, if◌then◌else◌, List, [], ◌∷◌, length, Option, Some, None}
use Rattle.std.specs.Option.{option_map, option_or}
use Rattle.ov_value.specs.Shapes.{Shape}
use Rattle.ov_model.specs.Act.{null_row}
use Rattle.ov_model.specs.Book.{Row}
use Rattle.ov_model.specs.Merge.{has_key}
use Rattle.ov_model.specs.declared.refusal.Refusal.{Refusal}
use Rattle.ov_model.specs.declared.refusal.Refusal.TheVariants as no
use Rattle.ov_rows.specs.declared.rows_err.RowsErr.{RowsErr}
use Rattle.ov_rows.specs.declared.rows_err.RowsErr.TheVariants.{TooManyRows, DuplicateKey, FormatOne, Memory}

abbrev pub count_off : ℕ → Option RowsErr
count_off count = if nat_lt 1000000 count then Some TooManyRows else None

-- the first row, counted from `nth` on, that has the key of an earlier one; `before` are those that were passed
abbrev pub first_repeat : Shape → List Row → ℕ → List Row → Option ℕ
first_repeat schema before nth [] = None
first_repeat schema before nth (row ∷ rows) =
    if has_key schema before row then Some nth else first_repeat schema (row ∷ before) (nth + 1) rows

-- a row with NULL, or columns that are added
abbrev pub null_off : Option ℕ → Bool → Option RowsErr
null_off (Some nth) adds = Some (FormatOne nth)
null_off None adds = if adds then Some (FormatOne 0) else None

abbrev pub format_off : ℕ → Bool → List Row → Option RowsErr
format_off format adds rows = if format == 1 then null_off (null_row 1 rows) adds else None

abbrev pub rows_off : ℕ → Shape → Bool → List Row → Option RowsErr
rows_off format schema adds rows =
    option_or (count_off (length rows))
    (option_or (option_map DuplicateKey (first_repeat schema [] 1 rows)) (format_off format adds rows))

-- the reason is the first that holds, or want of memory
abbrev pub IsWhy : ℕ → Shape → Bool → List Row → RowsErr → Type 0
IsWhy format schema adds rows Memory = Unit {0}
IsWhy format schema adds rows why = rows_off format schema adds rows ≡ Some why

-- want of memory is no refusal
abbrev pub refusal_of : RowsErr → Option Refusal
refusal_of TooManyRows = Some no.TooManyRows
refusal_of (DuplicateKey nth) = Some (no.DuplicateKey nth)
refusal_of (FormatOne nth) = Some (no.FormatOne nth)
refusal_of Memory = None
