-- One more version of a dataset. Where columns are added, the dataset has them.
--     IsNext d v vid made place held      what the store knows of the version is as the dataset has it
--     AreLast added      the columns are the last ones of a sound schema
use Rattle.std.specs.Prelude.{◌≡◌, ℕ, ◌+◌, List, [], ◌++◌, length, map}
use Rattle.ov_event.specs.declared.event.Placed.{Placed}
use Rattle.ov_event.specs.declared.event.Placed.TheVariants as at
use Rattle.ov_place.specs.declared.place_facts.Place.{Place}
use Rattle.ov_place.specs.declared.place_facts.Place.TheVariants.{Own, Join}
use Rattle.ov_member.specs.Rids.{has}
use Rattle.ov_value.specs.Shapes.{Shape, IsSound}
use Rattle.ov_value.specs.declared.column.Column.{Column}
use Rattle.ov_model.specs.Book.{Version}
use Rattle.ov_model.specs.Moves.{placed_at}
use Rattle.ov_model.specs.Records.{Rec, order_of, rid_in}
use Rattle.ov_model.specs.World.{Part, Dataset}
use Rattle.ov_records.specs.Committed.{AreRecords}
use Rattle.ov_records.specs.declared.outcome.Assigned.{Assigned}
use Rattle.ov_catalog.specs.Shown.{held_by}

-- the records that are there already where a version goes: none in a partition of its own
abbrev pub held_at : Place → List Part → List Rec
held_at Own parts = []
held_at (Join id) parts = held_by parts id

-- the version's number is the next one, its records have these rids, weights and fresh records, its place is the one that the
-- dataset's numbers decide on, and these rids are those of the records that are there already
pub record IsNext (d : Dataset) (v : Version) (vid : ℕ) (made : Assigned) (place : Place) (held : List ℕ) : Type 0 where
  pub vid_is : vid ≡ length d.cvd.versions + 1
  pub records : AreRecords d.cvd.versions v made.rids made.weights made.fresh
  pub place_is : place ≡ placed_at d v
  pub held_is : (rid : ℕ) → has held rid ≡ has (map (rid_in (order_of d.cvd.versions)) (held_at place d.parts)) rid

pub record AreLast (added : List Column) : Type 0 where
  pub schema : Shape
  pub front : List Column
  pub sound : IsSound schema
  pub columns_are : schema.columns ≡ front ++ added

-- the place as an event has it
abbrev pub spelled_place : Place → Placed
spelled_place Own = at.Own
spelled_place (Join id) = at.Join id
