-- The datasets that the code keeps, as numbers.
--     set_in d, sets_in ds      a dataset, datasets
use Rattle.std.specs.Prelude.{ℕ, Bool, not, ◌==◌, List, map, Option, Some, None}
use Rattle.ov_host.specs.declared.area.Extent.{Extent}
use Rattle.ov_layout.specs.declared.part.Part.{Part}
use Rattle.ov_catalog.specs.declared.cvd.Cvd.{Cvd}
use Rattle.ov_catalog.specs.declared.cvd.Plan.{Plan}
use Rattle.ov_catalog.specs.declared.cvd.Target.{Target}
use Rattle.ov_catalog.specs.declared.cvd.Version.{Version}
use Rattle.ov_catalog.specs.Numbers.{VersionNumbers, PartNumbers, TargetNumbers, PlanNumbers, SetNumbers}

abbrev pub version_in : Version → VersionNumbers Extent
version_in v = record { parents = v.parents; message = v.message; rows = v.rows; fresh = v.fresh; list = v.list }

abbrev pub part_in : Part → PartNumbers Extent
part_in part = record { id = part.id; versions = part.versions; holds = part.holds; records = part.records; segments = part.segments }

abbrev pub target_in : Target → TargetNumbers
target_in t = record { versions = t.versions; size = t.size; source = t.source; kept = t.kept; kept_records = t.kept_records }

abbrev pub plan_numbers : Plan → PlanNumbers Extent
plan_numbers plan = record {
  p = plan.p;
  q = plan.q;
  targets = map target_in plan.targets;
  at = plan.at;
  copied = plan.copied;
  segments = plan.segments.items;
}

abbrev pub plan_in : Option Plan → Option (PlanNumbers Extent)
plan_in None = None
plan_in (Some plan) = Some (plan_numbers plan)

abbrev pub set_in : Cvd → SetNumbers Extent Extent
set_in d = record {
  number = d.number;
  name = d.name;
  schema = d.schema;
  versions = map version_in d.versions.items;
  parts = map part_in d.layout.parts;
  next_part = d.layout.next;
  threshold = d.threshold;
  plan = plan_in d.plan;
  records = d.records;
}

abbrev pub sets_in : List Cvd → List (SetNumbers Extent Extent)
sets_in ds = map set_in ds

-- whether a dataset has another number
abbrev pub stays : ℕ → Cvd → Bool
stays n d = not (d.number == n)

abbrev pub numbers_of : List Cvd → List ℕ
numbers_of ds = map (λ d. d.number) ds
