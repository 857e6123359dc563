-- The row of bytes, as a function of them. It is total, and means something where the bytes spell a row.
--     row_of columns marked bytes      the row, one value a column, of bytes with marks in front or without
--     AreRow columns marked bytes      the bytes spell it
--     decoded columns nulls bytes      the values behind the marks; CanRead columns nulls bytes: the bytes are theirs
use Rattle.std.specs.Prelude.{ℕ, ◌+◌, ◌/◌, ◌%◌, ◌^◌, ◌==◌, ◌||◌, ◌&&◌, nat_lt, Bool, true, false, if◌then◌else◌, List, [], ◌∷◌, length, take, drop, slice_index}
use Rattle.std.specs.Int.{w32, w64, from_be_bytes, cast_signed}
use Rattle.ov_value.specs.declared.column.Column.{Column}
use Rattle.ov_value.specs.declared.column.Kind.{Kind}
use Rattle.ov_value.specs.declared.column.Kind.TheVariants as kind
use Rattle.ov_value.specs.declared.value.Value.{Value}
use Rattle.ov_value.specs.declared.value.Value.TheVariants.{Int, Text, Flag, Null}
use Rattle.ov_value.specs.Reading.{Lies, Spelled, low_number}

-- the length in front of a text
abbrev pub text_len : List ℕ → ℕ
text_len bytes = from_be_bytes w32 (take 4 bytes)

-- the value of a kind that stands in front, and what is behind it
abbrev pub front_value : Kind → List ℕ → Value
front_value kind.Int bytes = Int (cast_signed w64 (from_be_bytes w64 (take 8 bytes)))
front_value kind.Text bytes = Text (take (text_len bytes) (drop 4 bytes))
front_value kind.Flag bytes = Flag (slice_index bytes 0 == 1)

abbrev pub front_rest : Kind → List ℕ → List ℕ
front_rest kind.Int bytes = drop 8 bytes
front_rest kind.Text bytes = drop (text_len bytes) (drop 4 bytes)
front_rest kind.Flag bytes = drop 1 bytes

-- the same of a value that is NULL where it is marked so, or no bytes are left
abbrev pub step_value : Kind → Bool → List ℕ → Value
step_value kind null bytes = if null || length bytes == 0 then Null else front_value kind bytes

abbrev pub step_rest : Kind → Bool → List ℕ → List ℕ
step_rest kind null bytes = if null || length bytes == 0 then bytes else front_rest kind bytes

-- one value a column; the bits of nulls, the first column's the least, are the marks
abbrev pub decoded : List Column → ℕ → List ℕ → List Value
decoded [] nulls bytes = []
decoded (column ∷ columns) nulls bytes =
    step_value column.kind (nulls % 2 == 1) bytes ∷ decoded columns (nulls / 2) (step_rest column.kind (nulls % 2 == 1) bytes)

-- the bytes are those of values with these marks
abbrev pub CanRead : List Column → ℕ → List ℕ → Type 0
CanRead columns nulls bytes = Lies columns nulls bytes (decoded columns nulls bytes)

-- how many bytes of marks follow the first byte, which says how many values are marked
abbrev pub marks_count : List ℕ → ℕ
marks_count bytes = (slice_index bytes 0 + 7) / 8

-- the marks as a number, and what stands behind them
abbrev pub nulls_of : Bool → List ℕ → ℕ
nulls_of true bytes = low_number (take (marks_count bytes) (drop 1 bytes))
nulls_of false bytes = 0

abbrev pub body_of : Bool → List ℕ → List ℕ
body_of true bytes = drop (marks_count bytes) (drop 1 bytes)
body_of false bytes = bytes

abbrev pub row_of : List Column → Bool → List ℕ → List Value
row_of columns marked bytes = decoded columns (nulls_of marked bytes) (body_of marked bytes)

abbrev pub AreRow : List Column → Bool → List ℕ → Type 0
AreRow columns marked bytes = Spelled columns marked bytes (row_of columns marked bytes)

-- whether a value is there, of a row of which so many values are kept with these marks: it is kept and not marked
abbrev pub stands : ℕ → ℕ → ℕ → Bool
stands kept nulls place = nat_lt place kept && (nulls / 2 ^ place % 2 == 0)
