-- Records whose rows stay bytes: a record is a place in a buffer.
--     record_at columns bytes p      the record at a place
--     records_at columns bytes places      those at all places, in order
--     AreAt columns bytes places      the bytes at each place spell a row of the columns, of which there are at most 64
--     Content      what contracts see of a table: its columns and its records
--     longer n r      a record's row with so many columns more, which are NULL
use Rattle.std.specs.Prelude.{◌≤◌, ◌+◌, ◌-◌, ℕ, Bool, false, List, [], ◌∷◌, ◌++◌, length, map, replicate, take, drop, slice_index_or}
use Rattle.std.specs.List.{All}
use Rattle.ov_value.specs.declared.column.Column.{Column}
use Rattle.ov_value.specs.Decoding.{row_of, AreRow}
use Rattle.ov_value.specs.declared.value.Value.TheVariants.{Null}
use Rattle.ov_segment.specs.declared.numbered.Record.{Record}
use Rattle.ov_segment.specs.declared.place.Place.{Place}

-- the bytes at a place
abbrev pub piece : List ℕ → Place → List ℕ
piece bytes p = take (p.end - p.start) (drop p.start bytes)

abbrev pub record_at : List Column → List ℕ → Place → Record
record_at columns bytes p = record { rid = p.rid; row = row_of columns p.marked (piece bytes p) }

abbrev pub records_at : List Column → List ℕ → List Place → List Record
records_at columns bytes places = map (record_at columns bytes) places

-- bytes, with marks in front or without, that spell a row of these columns, of which there are at most 64
pub record AreBytes (columns : List Column) (marked : Bool) (bytes : List ℕ) : Type 0 where
  pub few : length columns ≤ 64
  pub spelled : AreRow columns marked bytes

pub record IsAt (columns : List Column) (bytes : List ℕ) (p : Place) : Type 0 where
  pub order : p.start ≤ p.end
  pub within : p.end ≤ length bytes
  pub spelled : AreRow columns p.marked (piece bytes p)

pub record AreAt (columns : List Column) (bytes : List ℕ) (places : List Place) : Type 0 where
  pub few : length columns ≤ 64
  pub at : All (IsAt columns bytes) places

-- the columns of all its rows, and the records in order
pub record Content : Type 0 where
  pub columns : List Column
  pub records : List Record

-- with one more record at the end
abbrev pub pushed : Content → Record → Content
pushed table r = record table { records = table.records ++ r ∷ [] }

-- with the records of another at the end
abbrev pub joined : Content → Content → Content
joined table other = record table { records = table.records ++ other.records }

-- a record's row with so many columns more, all NULL
abbrev pub longer : ℕ → Record → Record
longer n r = record { rid = r.rid; row = r.row ++ replicate n Null }

-- the place behind so many bytes more
abbrev pub moved_by : ℕ → Place → Place
moved_by base p = record p { start = base + p.start; end = base + p.end }

-- what stands at no position, and the places at these positions
abbrev pub no_place : Place
no_place = record { start = 0; end = 0; rid = 0; marked = false }

abbrev pub places_in : List Place → List ℕ → List Place
places_in places order = map (λ i. slice_index_or places i no_place) order
