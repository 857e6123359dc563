-- What the readers of a row's parts find in bytes.
--     Begins kind bytes v rest      a value of the kind stands before the rest
--     Steps kind null bytes v rest      the same, or NULL where it is marked so or no bytes are left
--     Lies columns nulls bytes row      the bytes are those of a row with these marks
--     Spelled columns marked bytes row      the bytes are the row's, with the marks
use Rattle.std.specs.Prelude.{◌≡◌, ◌≢◌, ℕ, ◌+◌, ◌*◌, ◌/◌, ◌^◌, ◌<◌, ◌==◌, ◌||◌, Bool, false, List, [], ◌∷◌, ◌++◌, length}
use Rattle.std.specs.List.{list_any, flat_map, AllByRecursion}
use Rattle.ov_value.specs.declared.column.Column.{Column}
use Rattle.ov_value.specs.declared.column.Kind.{Kind}
use Rattle.ov_value.specs.declared.value.Value.{Value}
use Rattle.ov_value.specs.declared.value.Value.TheVariants.{Null}
use Rattle.ov_value.specs.Rows.{IsOfKind, HasKinds, is_null}
use Rattle.ov_value.specs.Spelling.{value_bytes, kept, marks, low_bytes, mark_bytes, IsTyped, IsShort}

abbrev pub HasSpelling : Value → Type 0
HasSpelling value = IsTyped value × IsShort value

pub record Begins (kind : Kind) (bytes : List ℕ) (value : Value) (rest : List ℕ) : Type 0 where
  pub of_kind : IsOfKind value kind
  pub spelled : HasSpelling value
  pub not_null : value ≢ Null
  pub bytes_are : bytes ≡ value_bytes value ++ rest

pub record Steps (kind : Kind) (null : Bool) (bytes : List ℕ) (value : Value) (rest : List ℕ) : Type 0 where
  pub of_kind : IsOfKind value kind
  pub spelled : HasSpelling value
  pub null_where : is_null value ≡ (null || length bytes == 0)
  pub bytes_are : bytes ≡ value_bytes value ++ rest

pub record Lies (columns : List Column) (nulls : ℕ) (bytes : List ℕ) (row : List Value) : Type 0 where
  pub kinds : HasKinds row columns
  pub spelled : AllByRecursion HasSpelling row
  pub marked : marks (kept row) ≡ nulls
  pub bytes_are : bytes ≡ flat_map value_bytes row

pub record Spelled (columns : List Column) (marked : Bool) (bytes : List ℕ) (row : List Value) : Type 0 where
  pub kinds : HasKinds row columns
  pub spelled : AllByRecursion HasSpelling row
  pub marked_is : list_any is_null (kept row) ≡ marked
  pub bytes_are : bytes ≡ mark_bytes (kept row) ++ flat_map value_bytes row

-- the number whose bytes these are, the least first
abbrev pub low_number : List ℕ → ℕ
low_number [] = 0
low_number (b ∷ bytes) = b + 256 * low_number bytes

-- values of the columns that have the bytes; and where there are no marks, no NULL before another value
pub record Finds (columns : List Column) (nulls : ℕ) (bytes : List ℕ) (values : List Value) : Type 0 where
  pub kinds : HasKinds values columns
  pub spelled : AllByRecursion HasSpelling values
  pub bytes_are : bytes ≡ flat_map value_bytes values
  pub plain : nulls ≡ 0 → list_any is_null (kept values) ≡ false

-- so many values are kept, and the bits say which of them are NULL, at least one
pub record AreMarks (values : List Value) (width nulls : ℕ) : Type 0 where
  pub width_is : length (kept values) ≡ width
  pub some : nulls ≢ 0
  pub marks_are : marks (kept values) ≡ nulls

-- marks of so many values stand before the rest
pub record BeginWithMarks (bytes : List ℕ) (width nulls : ℕ) (rest : List ℕ) : Type 0 where
  pub small : nulls < 256 ^ ((width + 7) / 8)
  pub bytes_are : bytes ≡ width ∷ low_bytes ((width + 7) / 8) nulls ++ rest
