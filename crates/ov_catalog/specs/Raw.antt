-- The journal's events as events over numbers, whose holes are extents.
--     event_in e      the event
--     numbers_in events      the numbers after these events
--     adding added e      the event of a version with added columns
use Rattle.std.specs.Prelude.{ℕ, ◌&&◌, ◌==◌, if◌then◌else◌, List, [], ◌∷◌, map, Option, Some, None}
use Rattle.ov_event.specs.declared.event.Event as raw
use Rattle.ov_event.specs.declared.event.Event.TheVariants as says
use Rattle.ov_event.specs.declared.event.Placed.{Placed}
use Rattle.ov_event.specs.declared.event.Placed.TheVariants as at
use Rattle.ov_event.specs.declared.event.RawSchema.{RawSchema}
use Rattle.ov_event.specs.declared.whole.RawPart.{RawPart}
use Rattle.ov_event.specs.declared.whole.RawPlan.{RawPlan}
use Rattle.ov_event.specs.declared.whole.RawTarget.{RawTarget}
use Rattle.ov_event.specs.declared.whole.RawVersion.{RawVersion}
use Rattle.ov_event.specs.declared.whole.Whole as raw_whole
use Rattle.ov_host.specs.declared.area.Extent.{Extent}
use Rattle.ov_layout.specs.Changes.{extents_of}
use Rattle.ov_place.specs.declared.place_facts.Place.{Place}
use Rattle.ov_place.specs.declared.place_facts.Place.TheVariants.{Own, Join}
use Rattle.ov_value.specs.Shapes.{Shape}
use Rattle.ov_value.specs.declared.column.Column.{Column}
use Rattle.ov_catalog.specs.Numbers.{VersionNumbers, PartNumbers, TargetNumbers, PlanNumbers, SetNumbers, Numbers, nothing_yet}
use Rattle.ov_catalog.specs.Events.{Event, Init, Commit, Plan, Copy, Flip, Drop, Base, Whole, Wide, replayed}

abbrev pub place_in : Placed → Place
place_in at.Own = Own
place_in (at.Join id) = Join id

-- the columns and the places of the key columns, whether or not they may be a schema
abbrev pub shape_in : RawSchema → Shape
shape_in s = record { columns = s.columns; key = s.key }

-- ---- a dataset as it stands

abbrev pub raw_version : RawVersion → VersionNumbers Extent
raw_version v = record { parents = v.parents; message = v.message; rows = v.rows; fresh = v.fresh; list = v.list }

abbrev pub raw_part : RawPart → PartNumbers Extent
raw_part part = record { id = part.id; versions = part.versions; holds = part.holds; records = part.records; segments = part.segments }

abbrev pub raw_target : RawTarget → TargetNumbers
raw_target t = record { versions = t.versions; size = t.size; source = t.source; kept = t.kept; kept_records = t.kept_records }

-- 0 and 0 are no threshold
abbrev pub threshold_in : ℕ → ℕ → Option (ℕ × ℕ)
threshold_in p q = if p == 0 && q == 0 then None else Some (p, q)

-- a plan runs at the dataset's threshold
abbrev pub raw_plan : ℕ → ℕ → Option RawPlan → Option (PlanNumbers Extent)
raw_plan p q None = None
raw_plan p q (Some plan) =
    Some (record { p = p; q = q; targets = map raw_target plan.targets; at = plan.at; copied = plan.copied; segments = plan.segments })

abbrev pub whole_in : raw_whole.Whole → SetNumbers Extent Extent
whole_in d = record {
  number = d.number;
  name = d.name;
  schema = shape_in d.schema;
  versions = map raw_version d.versions;
  parts = map raw_part d.parts;
  next_part = d.next;
  threshold = threshold_in d.p d.q;
  plan = raw_plan d.p d.q d.plan;
  records = d.records;
}

-- ---- events

abbrev pub event_in : raw.Event → Event Extent Extent
event_in (says.Init name schema rows list segment) = Init name (shape_in schema) rows list (extents_of segment)
event_in (says.Commit cvd vid message parents rows fresh place added list segment) = Commit cvd vid message parents rows fresh (place_in place) added list (extents_of segment)
event_in (says.Plan cvd p q targets) = Plan cvd p q targets
event_in (says.Copy cvd count segment) = Copy cvd count (extents_of segment)
event_in (says.Flip cvd) = Flip cvd
event_in (says.Drop cvd) = Drop cvd
event_in (says.Base next) = Base next
event_in (says.Whole d) = Whole (whole_in d)
event_in (says.Wide cvd vid message columns parents rows fresh place added list segment) =
    Wide cvd vid message columns parents rows fresh (place_in place) added list (extents_of segment)

abbrev pub numbers_in : List raw.Event → Numbers Extent Extent
numbers_in events = replayed (map event_in events) nothing_yet

-- the event of a version to whose dataset these columns are added; with none it is as it was
abbrev pub adding : List Column → raw.Event → raw.Event
adding [] e = e
adding (column ∷ added) (says.Commit cvd vid message parents rows fresh place more list segment) =
    says.Wide cvd vid message (column ∷ added) parents rows fresh place more list segment
adding (column ∷ added) e = e
