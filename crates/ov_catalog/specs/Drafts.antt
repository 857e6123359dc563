-- A dataset that a Whole says, before its parts are tested.
--     draft_in d      its numbers
--     draft_off p q d      the first part of them that is off, behind the name and the schema; None where all of it holds
--     kept_version v, kept_part part, kept_target t      what is kept of each
use Rattle.std.specs.Prelude.{ℕ, ◌&&◌, nat_le, length, map, Option}
use Rattle.std.specs.List.{list_all}
use Rattle.std.specs.Option.{option_or}
use Rattle.ov_host.specs.declared.area.Extent.{Extent}
use Rattle.ov_event.specs.declared.whole.RawPart.{RawPart}
use Rattle.ov_event.specs.declared.whole.RawTarget.{RawTarget}
use Rattle.ov_event.specs.declared.whole.RawVersion.{RawVersion}
use Rattle.ov_layout.specs.declared.part.Part.{Part}
use Rattle.ov_catalog.specs.declared.cvd.Target.{Target}
use Rattle.ov_catalog.specs.declared.cvd.Version.{Version}
use Rattle.ov_catalog.specs.declared.draft.Draft.{Draft}
use Rattle.ov_catalog.specs.declared.field.Field.{Field}
use Rattle.ov_catalog.specs.declared.field.Field.TheVariants as off
use Rattle.ov_catalog.specs.Numbers.{SetNumbers}
use Rattle.ov_catalog.specs.Raw.{shape_in, threshold_in}
use Rattle.ov_catalog.specs.Sets.{part_in, plan_in, version_in}
use Rattle.ov_catalog.specs.Testing.{off_unless}
use Rattle.ov_catalog.specs.Wholes.{are_parts, are_placed, are_records, are_versions, is_plan, is_threshold_for}

abbrev pub draft_in : Draft → SetNumbers Extent Extent
draft_in d = record {
  number = d.number;
  name = d.name;
  schema = shape_in d.schema;
  versions = map version_in d.versions.items;
  parts = map part_in d.parts.items;
  next_part = d.next;
  threshold = threshold_in d.p d.q;
  plan = plan_in d.plan;
  records = d.records;
}

-- as `whole_off` goes on; the threshold that is said is p / q
abbrev pub draft_off : ℕ → ℕ → SetNumbers Extent Extent → Option Field
draft_off p q d =
    option_or (off_unless (are_versions d.versions) off.Parent)
    (option_or (off_unless (list_all (λ v. nat_le (length v.message) 1024) d.versions) off.Message)
    (option_or (off_unless (are_records d) off.Rows)
    (option_or (off_unless (are_parts d) off.Placing)
    (option_or (off_unless (is_threshold_for p q d.plan && is_plan d d.plan) off.Plan)
    (off_unless (are_placed d) off.Place)))))

-- ---- what is kept as it is said

abbrev pub kept_version : RawVersion → Version
kept_version v = record { parents = v.parents; message = v.message; rows = v.rows; fresh = v.fresh; list = v.list }

abbrev pub kept_part : RawPart → Part
kept_part part = record { id = part.id; versions = part.versions; holds = part.holds; records = part.records; segments = part.segments }

abbrev pub kept_target : RawTarget → Target
kept_target t = record { versions = t.versions; size = t.size; source = t.source; kept = t.kept; kept_records = t.kept_records }
