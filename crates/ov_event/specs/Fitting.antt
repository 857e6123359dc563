-- The lengths and numbers of items that fit their fields: what an event needs to have a spelling.
use Rattle.std.specs.Prelude.{ℕ, ◌<◌, ◌^◌, List, length, Option, Some, None}
use Rattle.std.specs.List.{All}
use Rattle.ov_value.specs.declared.column.Column.{Column}
use Rattle.ov_event.specs.declared.event.Event.{Event}
use Rattle.ov_event.specs.declared.event.Event.TheVariants.{Init, Commit, Plan, Copy, Flip, Drop, Base, Whole, Wide}
use Rattle.ov_event.specs.declared.event.PlanTarget.{PlanTarget}
use Rattle.ov_event.specs.declared.event.RawSchema.{RawSchema}
use Rattle.ov_event.specs.declared.whole.RawPart.{RawPart}
use Rattle.ov_event.specs.declared.whole.RawPlan.{RawPlan}
use Rattle.ov_event.specs.declared.whole.RawTarget.{RawTarget}
use Rattle.ov_event.specs.declared.whole.RawVersion.{RawVersion}
use Rattle.ov_event.specs.declared.whole.Whole.{Whole as Dataset}

-- so many items have a number of 8, 16 or 32 bits
abbrev pub Few : {A : Type 0} → ℕ → List A → Type 0
Few bits xs = length xs < 2 ^ bits

abbrev pub ColumnFits : Column → Type 0
ColumnFits c = Few 32 c.name

abbrev pub ColumnsFit : List Column → Type 0
ColumnsFit cs = Few 8 cs × All ColumnFits cs

abbrev pub SchemaFits : RawSchema → Type 0
SchemaFits s = ColumnsFit s.columns × Few 8 s.key

abbrev pub TargetFits : PlanTarget → Type 0
TargetFits t = Few 32 t.kept

abbrev pub VersionFits : RawVersion → Type 0
VersionFits v = Few 16 v.parents × Few 32 v.message

abbrev pub PartFits : RawPart → Type 0
PartFits p = Few 32 p.versions × Few 32 p.holds × Few 32 p.segments

abbrev pub RawTargetFits : RawTarget → Type 0
RawTargetFits t = Few 32 t.versions × Few 32 t.kept

abbrev pub RawPlanFits : RawPlan → Type 0
RawPlanFits p = Few 32 p.targets × All RawTargetFits p.targets × Few 32 p.segments

abbrev pub MaybePlanFits : Option RawPlan → Type 0
MaybePlanFits None = Unit {0}
MaybePlanFits (Some p) = RawPlanFits p

pub record DatasetFits (w : Dataset) : Type 0 where
  pub name : Few 32 w.name
  pub schema : SchemaFits w.schema
  pub versions : Few 32 w.versions
  pub each_version : All VersionFits w.versions
  pub parts : Few 32 w.parts
  pub each_part : All PartFits w.parts
  pub plan : MaybePlanFits w.plan

abbrev pub Fits : Event → Type 0
Fits (Init name schema rows list segment) = Few 32 name × SchemaFits schema
Fits (Commit cvd vid message parents rows fresh place added list segment) = Few 32 message × Few 16 parents
Fits (Plan cvd p q targets) = Few 32 targets × All TargetFits targets
Fits (Copy cvd count segment) = Unit {0}
Fits (Flip cvd) = Unit {0}
Fits (Drop cvd) = Unit {0}
Fits (Base next) = Unit {0}
Fits (Whole w) = DatasetFits w
Fits (Wide cvd vid message columns parents rows fresh place added list segment) = Few 32 message × ColumnsFit columns × Few 16 parents
