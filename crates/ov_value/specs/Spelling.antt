-- The bytes of a row: one spelling for each row.
--     value_bytes v      of one value; NULL has none
--     kept row      its values up to the last that is not NULL
--     mark_bytes values      which of them are NULL, where any is
--     row_spelling row      marked or plain, and the bytes; IsSpelling row marked bytes: these are they
--     IsRow s row      it fits, and each of its values has a spelling
use Rattle.std.specs.Prelude.{◌≡◌, ℕ, zero, suc, ◌+◌, ◌*◌, ◌/◌, ◌%◌, ◌^◌, ◌<◌, Bool, if◌then◌else◌, IsUtf8, List, [], ◌∷◌, ◌++◌, length}
use Rattle.std.specs.List.{list_any, flat_map, All}
use Rattle.std.specs.Int.{w32, w64, to_be_bytes, cast_unsigned}
use Rattle.std.specs.Int.RustNames.{FitsSigned}
use Rattle.ov_value.specs.declared.spelled.RowBytes.{RowBytes}
use Rattle.ov_value.specs.declared.value.Value.{Value}
use Rattle.ov_value.specs.declared.value.Value.TheVariants.{Int, Text, Flag, Null}
use Rattle.ov_value.specs.Shapes.{Shape}
use Rattle.ov_value.specs.Rows.{Fits, is_null}

-- an int in eight bytes of two's complement, the high byte first; a text's length in four, and its bytes;
-- a flag in one
abbrev pub value_bytes : Value → List ℕ
value_bytes (Int x) = to_be_bytes w64 (cast_unsigned w64 x)
value_bytes (Text bytes) = to_be_bytes w32 (length bytes) ++ bytes
value_bytes (Flag b) = (if b then 1 else 0) ∷ []
value_bytes Null = []

-- the value and those kept after it; a NULL with none kept after it goes
abbrev pub kept_with : Value → List Value → List Value
kept_with Null [] = []
kept_with value values = value ∷ values

abbrev pub kept : List Value → List Value
kept [] = []
kept (value ∷ values) = kept_with value (kept values)

-- the number with a bit for each value, the first one's the least, set where it is NULL
abbrev pub marks : List Value → ℕ
marks [] = 0
marks (value ∷ values) = (if is_null value then 1 else 0) + 2 * marks values

-- so many bytes of a number, the least first
abbrev pub low_bytes : ℕ → ℕ → List ℕ
low_bytes zero n = []
low_bytes (suc count) n = n % 256 ∷ low_bytes count (n / 256)

-- where any is NULL: their number, and their marks in as few bytes as have a bit for each
abbrev pub mark_bytes : List Value → List ℕ
mark_bytes values =
    if list_any is_null values then length values ∷ low_bytes ((length values + 7) / 8) (marks values)
    else []

unfoldable pub row_spelling : List Value → RowBytes
row_spelling row = record {
  marked = list_any is_null (kept row);
  bytes = mark_bytes (kept row) ++ flat_map value_bytes row;
}

-- these bytes, with marks in front or without, are the row's
abbrev pub IsSpelling : List Value → Bool → List ℕ → Type 0
IsSpelling row marked bytes = (marked ≡ (row_spelling row).marked) × (bytes ≡ (row_spelling row).bytes)

-- a text is below 2^32 bytes, so that its length has four
abbrev pub IsShort : Value → Type 0
IsShort (Int _) = Unit {0}
IsShort (Text bytes) = length bytes < 2 ^ 32
IsShort (Flag _) = Unit {0}
IsShort Null = Unit {0}

-- an int is of 64 bits, a text is UTF-8: so is each value of the program
abbrev pub IsTyped : Value → Type 0
IsTyped (Int x) = FitsSigned w64 x
IsTyped (Text bytes) = IsUtf8 bytes
IsTyped (Flag _) = Unit {0}
IsTyped Null = Unit {0}

pub record IsRow (schema : Shape) (row : List Value) : Type 0 where
  pub fits : Fits schema row
  pub typed : All IsTyped row
  pub short : All IsShort row
