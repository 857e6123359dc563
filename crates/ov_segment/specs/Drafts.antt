-- A row in the making: its values so far, as bytes, and which of them are NULL.
--     Draft      what contracts see of it
--     Holds draft values      it has these values
--     IsWhole draft values      and their bytes, since a row of them isn't too long to be kept
use Rattle.std.specs.Prelude.{◌≡◌, ◌≤◌, ◌<◌, ◌+◌, ◌^◌, ℕ, false, List, ◌++◌, length, min}
use Rattle.std.specs.List.{flat_map}
use Rattle.ov_value.specs.declared.value.Value.{Value}
use Rattle.ov_value.specs.Rows.{is_null}
use Rattle.ov_value.specs.Spelling.{value_bytes, kept, marks, row_spelling}

-- the number of the values, and the marks of all; the same of those up to the last that is not NULL; the number of their
-- bytes, and these
pub record Draft : Type 0 where
  pub count : ℕ
  pub nulls : ℕ
  pub width : ℕ
  pub marks : ℕ
  pub size : ℕ
  pub bytes : List ℕ

-- the bytes are kept where they aren't too many
pub record Holds (draft : Draft) (values : List Value) : Type 0 where
  pub count_is : draft.count ≡ length values
  pub nulls_are : draft.nulls ≡ marks values
  pub width_is : draft.width ≡ length (kept values)
  pub marks_are : draft.marks ≡ marks (kept values)
  pub size_is : draft.size ≡ min (length (flat_map value_bytes values)) 0xffff_ffff_ffff_ffff
  pub bytes_are : draft.size ≤ 65536 → draft.bytes ≡ flat_map value_bytes values

pub record IsWhole (draft : Draft) (values : List Value) : Type 0 where
  pub holds : Holds draft values
  pub small : length (row_spelling values).bytes ≤ 65536

-- at most 64 values, each with a bit
pub record IsInBounds (count nulls width : ℕ) : Type 0 where
  pub few : count ≤ 64
  pub small : nulls < 2 ^ count
  pub within : width ≤ count

-- the value has so many bytes, and has these where they aren't too many
pub record ArePartsOf (value : Value) (front rest : List ℕ) : Type 0 where
  pub some : is_null value ≡ false
  pub size : length (value_bytes value) ≡ length front + length rest
  pub bytes : length rest ≤ 65536 → value_bytes value ≡ front ++ rest
