-- The snapshot of numbers: the one list of events that says them.
--     snapshot_in n      its events
use Rattle.std.specs.Prelude.{List, ◌∷◌, map, Option, Some, None}
use Rattle.ov_event.specs.declared.event.Event as raw
use Rattle.ov_event.specs.declared.event.Event.TheVariants as says
use Rattle.ov_event.specs.declared.whole.RawPart.{RawPart}
use Rattle.ov_event.specs.declared.whole.RawPlan.{RawPlan}
use Rattle.ov_event.specs.declared.whole.RawTarget.{RawTarget}
use Rattle.ov_event.specs.declared.whole.RawVersion.{RawVersion}
use Rattle.ov_event.specs.declared.whole.Whole.{Whole}
use Rattle.ov_host.specs.declared.area.Extent.{Extent}
use Rattle.ov_catalog.specs.Numbers.{VersionNumbers, PartNumbers, TargetNumbers, PlanNumbers, SetNumbers, Numbers}
use Rattle.law_snapshots.specs.Whole.{spelled, p_of, q_of}

abbrev pub said_version : VersionNumbers Extent → RawVersion
said_version v = record { parents = v.parents; message = v.message; rows = v.rows; fresh = v.fresh; list = v.list }

abbrev pub said_part : PartNumbers Extent → RawPart
said_part part = record { id = part.id; versions = part.versions; holds = part.holds; records = part.records; segments = part.segments }

abbrev pub said_target : TargetNumbers → RawTarget
said_target t = record { versions = t.versions; size = t.size; source = t.source; kept = t.kept; kept_records = t.kept_records }

abbrev pub said_plan : Option (PlanNumbers Extent) → Option RawPlan
said_plan None = None
said_plan (Some plan) =
    Some (record { at = plan.at; copied = plan.copied; targets = map said_target plan.targets; segments = plan.segments })

abbrev pub said_whole : SetNumbers Extent Extent → Whole
said_whole d = record {
  number = d.number;
  name = d.name;
  schema = spelled d.schema;
  records = d.records;
  p = p_of d.threshold;
  q = q_of d.threshold;
  next = d.next_part;
  versions = map said_version d.versions;
  parts = map said_part d.parts;
  plan = said_plan d.plan;
}

abbrev pub snapshot_in : Numbers Extent Extent → List raw.Event
snapshot_in n = says.Base n.next ∷ map (λ d. says.Whole (said_whole d)) n.sets
