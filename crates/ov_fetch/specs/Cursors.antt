-- A place in a segment that is read in pieces.
use Rattle.std.specs.Prelude.{◌≡◌, ◌≤◌, ◌<◌, ℕ, ◌^◌, false, List, ◌++◌, length, drop}
use Rattle.ov_segment.specs.Reading.{fresh}
use Rattle.ov_fetch.specs.declared.cursor.Cursor.{Cursor}
use Rattle.ov_fetch.specs.Extents.{extent_bytes}

-- the bytes behind the records that were given: those held, and those of the extent that were not read yet
abbrev pub left_of : List ℕ → Cursor → List ℕ
left_of area c = c.reader.held ++ drop c.at (extent_bytes area c.extent)

-- nothing off was found, and the place is within the extent
pub record IsOpen (c : Cursor) : Type 0 where
  pub open_still : c.reader.over ≡ false
  pub within : c.at ≤ c.extent.bytes
  pub sized : c.extent.bytes < 2 ^ 32

-- nothing was read of the segment yet
pub record IsAtFront (c : Cursor) : Type 0 where
  pub at_front : c.at ≡ 0
  pub reader_is : c.reader ≡ fresh
  pub sized : c.extent.bytes < 2 ^ 32

-- all bytes before the place were there
abbrev pub Reaches : List ℕ → Cursor → Type 0
Reaches area c = c.at ≤ length (extent_bytes area c.extent)

-- the same segment and the same records given, at a place within it
pub record IsSameWith (old new : Cursor) : Type 0 where
  pub extent_same : new.extent ≡ old.extent
  pub last_same : new.reader.last ≡ old.reader.last
  pub over_same : new.reader.over ≡ old.reader.over
  pub within : new.at ≤ old.extent.bytes
