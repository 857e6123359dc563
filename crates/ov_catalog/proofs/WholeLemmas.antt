-- A draft whose parts are tested is a dataset.
use Rattle.std.proofs.Common.{◌≡◌, ◌^◌, ◌≤◌, true, ◌&&◌, length, map, arith}
use Rattle.std.specs.Prelude.{None, nat_le, ◌==◌}
use Rattle.std.specs.List.{list_all, sum_by}
use Rattle.std.proofs.lemmas.Bool.{and_parts, leb-true}
use Rattle.ov_host.specs.declared.area.Extent.{Extent}
use Rattle.ov_layout.specs.Parts.{Partitions}
use Rattle.ov_value.specs.Shapes.{Shape}
use Rattle.ov_catalog.specs.declared.cvd.Cvd.{Cvd}
use Rattle.ov_catalog.specs.declared.draft.Draft.{Draft}
use Rattle.ov_catalog.specs.declared.field.Field.TheVariants as off
use Rattle.ov_catalog.specs.Drafts.{draft_in, draft_off}
use Rattle.ov_catalog.specs.Numbers.{VersionNumbers}
use Rattle.ov_catalog.specs.Raw.{threshold_in}
use Rattle.ov_catalog.specs.Ready.{IsSet}
use Rattle.ov_catalog.specs.Sets.{plan_in, version_in}
use Rattle.ov_catalog.specs.Testing.{off_unless}
use Rattle.ov_catalog.specs.Thresholds.{IsSaid}
use Rattle.ov_catalog.specs.Wholes.{are_parts, are_placed, are_records, are_rows, are_versions, is_plan, is_threshold_for}
use Rattle.ov_catalog.proofs.CommitLemmas.{off-none}
use Rattle.ov_catalog.proofs.WholeParts.{parts-new, parts-next, parts-none_other, parts-placed}
use Rattle.ov_catalog.proofs.WholePlans.{plan-runs}
use Rattle.ov_catalog.proofs.WholeVersions.{are-sound}

-- all that was tested
pub record IsTested (d : Draft) : Type 0 where
  pub versions : are_versions (map version_in d.versions.items) ≡ true
  pub records : d.records ≤ 2 ^ 31
  pub parts : are_parts (draft_in d) ≡ true
  pub threshold : is_threshold_for d.p d.q (plan_in d.plan) ≡ true
  pub plan : is_plan (draft_in d) (plan_in d.plan) ≡ true

pub tested : (d : Draft) → draft_off d.p d.q (draft_in d) ≡ None → IsTested d
tested d h =
    let numbers = draft_in d in
    let runs = is_threshold_for d.p d.q (plan_in d.plan) && is_plan numbers (plan_in d.plan) in
    let versions = off-none (are_versions numbers.versions) off.Parent _ h in
    let messages = off-none (list_all (λ (v : VersionNumbers Extent). nat_le (length v.message) 1024) numbers.versions) off.Message _ versions.1 in
    let records = off-none (are_records numbers) off.Rows _ messages.1 in
    let parts = off-none (are_parts numbers) off.Placing _ records.1 in
    let plan = off-none runs off.Plan (off_unless (are_placed numbers) off.Place) parts.1 in
    let may = and_parts (is_threshold_for d.p d.q (plan_in d.plan)) (is_plan numbers (plan_in d.plan)) plan.0 in
    let sum = and_parts (are_rows 0 numbers.versions) _ records.0 in
    let few = and_parts (sum_by (λ (v : VersionNumbers Extent). v.fresh) numbers.versions == d.records) (nat_le d.records (2 ^ 31)) sum.1 in
    record { versions = versions.0; records = leb-true _ _ few.1; parts = parts.0; threshold = may.0; plan = may.1 }

-- the dataset of a draft
abbrev pub set_with : Shape → Partitions → Draft → Cvd
set_with schema layout d = record {
  number = d.number;
  name = d.name;
  schema = schema;
  versions = d.versions;
  layout = layout;
  threshold = threshold_in d.p d.q;
  plan = d.plan;
  records = d.records;
}

pub set-is : (d : Draft) (schema : Shape) (layout : Partitions) → draft_off d.p d.q (draft_in d) ≡ None → IsSaid (threshold_in d.p d.q) (plan_in d.plan) → layout.parts ≡ d.parts.items → layout.next ≡ d.next
    → IsSet (set_with schema layout d)
set-is d schema layout h said parts next =
    let is = tested d h in
    let sound = are-sound d.versions.items is.versions in
    let few = is.records in
    let little = sound.few in
    let left = parts-next d is.parts in
    record {
      some = sound.some;
      few = sound.few;
      graph = sound.graph;
      new = rw parts (parts-new d is.parts);
      placed = λ vid one le. rw parts (parts-placed d is.parts vid one le);
      none_other = rw parts (parts-none_other d is.parts);
      records = omega (arith, few);
      next = omega (arith, next, left);
      plan = rw parts (plan-runs d is.parts is.plan sound.few (omega (arith, few)));
      threshold = said;
    }
