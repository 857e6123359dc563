-- What a version writes: its rows with their rids. All of the rids are in its list, and those that the partition doesn't hold
-- already are in its segment.
--     AreGiven rids rows      the rows have these rids, none twice
--     list_written rids, segment_written held rids rows      the bytes of the list and of the segment
--     IsWhy why held rids rows      why they aren't written
use Rattle.std.specs.Prelude.{◌≡◌, ◌≤◌, ℕ, ◌^◌, not, nat_eq, List, [], ◌∷◌, length, filter}
use Rattle.std.specs.List.{All, IsDistinct}
use Rattle.ov_event.specs.declared.event.Event as raw
use Rattle.ov_event.specs.declared.event.Event.TheVariants as says
use Rattle.ov_event.specs.declared.event.RawSchema.{RawSchema}
use Rattle.ov_value.specs.Shapes.{Shape}
use Rattle.ov_model.specs.Book.{Row}
use Rattle.ov_member.specs.Lists.{spelling}
use Rattle.ov_member.specs.Rids.{has}
use Rattle.ov_segment.specs.declared.numbered.Record.{Record}
use Rattle.ov_segment.specs.Segments.{segment_spelling}
use Rattle.ov_catalog.specs.Shown.{sorted_by}
use Rattle.ov_core.specs.Brought.{extent_at}
use Rattle.ov_core.specs.Rooms.{pages_for}
use Rattle.ov_version_bytes.specs.declared.write_err.WriteErr.{WriteErr}
use Rattle.ov_version_bytes.specs.declared.write_err.WriteErr.TheVariants.{Memory, TooLong}

-- as many as there are rows, from 1 to 2^31, and none twice
pub record AreGiven (rids : List ℕ) (rows : List Row) : Type 0 where
  pub as_many : length rids ≡ length rows
  pub once : IsDistinct nat_eq rids
  pub some : All (λ rid. 1 ≤ rid) rids
  pub low : All (λ rid. rid ≤ 2 ^ 31) rids

-- each row with its rid
abbrev pub numbered : List ℕ → List Row → List Record
numbered [] rows = []
numbered (rid ∷ rids) [] = []
numbered (rid ∷ rids) (row ∷ rows) = record { rid = rid; row = row } ∷ numbered rids rows

abbrev pub not_held : List ℕ → List Record → List Record
not_held held records = filter (λ r. not (has held r.rid)) records

abbrev pub list_written : List ℕ → List ℕ
list_written rids = spelling (sorted_by (λ rid. rid) rids)

abbrev pub segment_written : List ℕ → List ℕ → List Row → List ℕ
segment_written held rids rows = segment_spelling (sorted_by (λ r. r.rid) (not_held held (numbered rids rows)))

-- a segment has 2^20 pages at least; so many does it have, and so many has the list
abbrev pub IsLong : ℕ → ℕ → List ℕ → List ℕ → Type 0
IsLong list_pages segment_pages list segment =
    (list_pages ≡ pages_for list) × (segment_pages ≡ pages_for segment) × (2 ^ 20 ≤ segment_pages)

abbrev pub IsWhy : WriteErr → List ℕ → List ℕ → List Row → Type 0
IsWhy Memory held rids rows = Unit {0}
IsWhy (TooLong list_pages segment_pages) held rids rows =
    IsLong list_pages segment_pages (list_written rids) (segment_written held rids rows)

-- the schema as an event has it
abbrev pub spelled_schema : Shape → RawSchema
spelled_schema schema = record { columns = schema.columns; key = schema.key }

abbrev pub first_event : List ℕ → Shape → List Row → List ℕ → List ℕ → raw.Event
first_event name schema rows list segment =
    says.Init name (spelled_schema schema) (length rows) (extent_at 0 list) (extent_at 0 segment)
