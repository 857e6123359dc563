-- A commit to a dataset of a World.
--     IsAsked a w ds area      the dataset and the parents' records are those of the World
--     IsAnswered a w ds e fresh list segment      what is written is what the World asks for
--     AsksTooMuch a w ds list_pages segment_pages      what the World asks for is too long
--     IsSpared why a w ds      a refusal that says nothing of the pages: too many records exactly where the model has them, and too
--         long a segment only where the World asks for it
use Rattle.std.specs.Prelude.{◌≡◌, ◌≤◌, ◌<◌, ◌+◌, ◌^◌, ℕ, List, [], ◌∷◌, ◌++◌, length, Some}
use Rattle.ov_event.specs.declared.event.Event as raw
use Rattle.ov_model.specs.Assigned.{stored_parents}
use Rattle.ov_model.specs.Book.{Version}
use Rattle.ov_model.specs.Moves.{Commit, version_of, wide}
use Rattle.ov_model.specs.Records.{fresh_in, order_of, records_of, recs}
use Rattle.ov_model.specs.World.{Dataset, World}
use Rattle.ov_records.specs.Records.{lists_of}
use Rattle.ov_catalog.specs.Raw.{event_in}
use Rattle.ov_catalog.specs.Stands.{asked_event}
use Rattle.ov_core.specs.Brought.{BringsRuns, content, extent_at, with_extents}
use Rattle.ov_read.specs.OfWorld.{IsSetOf}
use Rattle.ov_version_bytes.specs.Written.{IsLong}
use Rattle.ov_new_version.specs.declared.errors.CommitErr.{CommitErr}
use Rattle.ov_new_version.specs.declared.errors.CommitErr.TheVariants.{Memory, Damaged, TooManyRecords, TooLong}
use Rattle.ov_new_version.specs.Asked.{Asked}

pub record IsAsked (a : Asked) (w : World) (ds : Dataset) (area : List ℕ) : Type 0 where
  pub of_world : IsSetOf w ds area a.set
  pub parents : lists_of a.parents ≡ stored_parents a.vids (recs (wide a.added ds).cvd.versions []) (order_of (wide a.added ds).cvd.versions)

-- the version that is asked for, and the records that there are with it
abbrev pub version_in : Asked → Version
version_in a = version_of a.vids a.message a.rows

abbrev pub records_with : Asked → Dataset → ℕ
records_with a ds = length (order_of ((wide a.added ds).cvd.versions ++ version_in a ∷ []))

pub record IsAnswered (a : Asked) (w : World) (ds : Dataset) (e : raw.Event) (fresh : ℕ) (list segment : List ℕ) : Type 0 where
  pub says : Some (content (event_in e) list segment) ≡ asked_event (Commit a.set.number a.vids a.message a.added a.rows) w
  pub fresh_is : fresh ≡ length (fresh_in (records_of (version_in a) (recs (wide a.added ds).cvd.versions [])) (length (wide a.added ds).cvd.versions + 1))
  pub room : records_with a ds ≤ 2 ^ 31

-- an event, a list and a segment of so many pages say what the World asks for, which has the records for it
pub record AsksTooMuch (a : Asked) (w : World) (ds : Dataset) (list_pages segment_pages : ℕ) : Type 0 where
  pub event : raw.Event
  pub list : List ℕ
  pub segment : List ℕ
  pub says : Some (content (event_in event) list segment) ≡ asked_event (Commit a.set.number a.vids a.message a.added a.rows) w
  pub sized : with_extents (extent_at 0 list) (extent_at 0 segment) event ≡ event
  pub runs : BringsRuns event list
  pub long : IsLong list_pages segment_pages list segment
  pub room : records_with a ds ≤ 2 ^ 31

abbrev pub IsSpared : CommitErr → Asked → World → Dataset → Type 0
IsSpared Memory a w ds = Unit {0}
IsSpared (Damaged page) a w ds = ⊥
IsSpared TooManyRecords a w ds = 2 ^ 31 < records_with a ds
IsSpared (TooLong list_pages segment_pages) a w ds = AsksTooMuch a w ds list_pages segment_pages
