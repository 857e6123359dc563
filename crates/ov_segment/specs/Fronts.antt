-- What stands in front of a segment's bytes, where it lies.
use Rattle.std.specs.Prelude.{◌+◌, ◌≤◌, ℕ, Bool, List, length, drop}
use Rattle.ov_value.specs.Shapes.{Shape}
use Rattle.ov_value.specs.Decoding.{row_of, AreRow}
use Rattle.ov_segment.specs.declared.keeping.Front.{Front}
use Rattle.ov_segment.specs.declared.keeping.Front.TheVariants as front
use Rattle.ov_segment.specs.Reading.{WantsMore, IsOff, Begins}

-- the record with this rid, whose row has these bytes, is the next, and stands in front
pub record IsFront (schema : Shape) (last : ℕ) (bytes : List ℕ) (rid : ℕ) (marked : Bool) (row : List ℕ) : Type 0 where
  pub begins : Begins schema last bytes (record { rid = rid; row = row_of schema.columns marked row }) (drop (8 + length row) bytes)
  pub are : AreRow schema.columns marked row
  pub within : 8 + length row ≤ length bytes

abbrev pub ReadsFront : Shape → ℕ → List ℕ → Front → Type 0
ReadsFront schema last bytes (front.Record rid marked row) = IsFront schema last bytes rid marked row.now
ReadsFront schema last bytes front.More = WantsMore last bytes
ReadsFront schema last bytes front.Bad = IsOff schema last bytes
