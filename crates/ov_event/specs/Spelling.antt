-- The one spelling of each event: its tag, and then its fields.
use Rattle.std.specs.Prelude.{ℕ, List, [], ◌∷◌, ◌++◌, Option, Some, None}
use Rattle.ov_value.specs.declared.column.Column.{Column}
use Rattle.ov_value.specs.declared.column.Kind.{Kind}
use Rattle.ov_value.specs.declared.column.Kind.TheVariants as kind
use Rattle.ov_event.specs.declared.event.Event.{Event}
use Rattle.ov_event.specs.declared.event.Event.TheVariants.{Init, Commit, Plan, Copy, Flip, Drop, Base, Whole, Wide}
use Rattle.ov_event.specs.declared.event.Placed.{Placed}
use Rattle.ov_event.specs.declared.event.Placed.TheVariants.{Own, Join}
use Rattle.ov_event.specs.declared.event.PlanTarget.{PlanTarget}
use Rattle.ov_event.specs.declared.event.RawSchema.{RawSchema}
use Rattle.ov_event.specs.declared.whole.RawPart.{RawPart}
use Rattle.ov_event.specs.declared.whole.RawPlan.{RawPlan}
use Rattle.ov_event.specs.declared.whole.RawTarget.{RawTarget}
use Rattle.ov_event.specs.declared.whole.RawVersion.{RawVersion}
use Rattle.ov_event.specs.declared.whole.Whole.{Whole as Dataset}
use Rattle.ov_event.specs.Fields.{fields, u8, u16, u32, text, extent, counted, IsU8, IsU32, IsText, IsExtent, AreFew}

abbrev pub kind_code : Kind → ℕ
kind_code kind.Int = 1
kind_code kind.Text = 2
kind_code kind.Flag = 3

unfoldable pub column : Column → List ℕ
column c = fields (text c.name ∷ u8 (kind_code c.kind) ∷ [])

unfoldable pub schema : RawSchema → List ℕ
schema s = fields (counted u8 column s.columns ∷ counted u8 u8 s.key ∷ [])

-- a version, and the weight of its edge
unfoldable pub parent : ℕ × ℕ → List ℕ
parent p = fields (u32 p.0 ∷ u32 p.1 ∷ [])

abbrev pub parents : List (ℕ × ℕ) → List ℕ
parents ps = counted u16 parent ps

unfoldable pub place : Placed → List ℕ
place Own = u8 0
place (Join partition) = u8 1 ++ u32 partition

unfoldable pub target : PlanTarget → List ℕ
target t = fields (u32 t.size ∷ u32 t.source ∷ counted u32 u32 t.kept ∷ u32 t.kept_records ∷ [])

-- ---- a dataset as it stands

unfoldable pub version : RawVersion → List ℕ
version v = fields (parents v.parents ∷ text v.message ∷ u32 v.rows ∷ u32 v.fresh ∷ extent v.list ∷ [])

unfoldable pub part : RawPart → List ℕ
part p = fields (u32 p.id ∷ counted u32 u32 p.versions ∷ counted u32 u32 p.holds ∷ u32 p.records ∷ counted u32 extent p.segments ∷ [])

-- the versions that it will have, and the fields of a plan's target
unfoldable pub raw_target : RawTarget → List ℕ
raw_target t = fields (counted u32 u32 t.versions ∷ u32 t.size ∷ u32 t.source ∷ counted u32 u32 t.kept ∷ u32 t.kept_records ∷ [])

unfoldable pub raw_plan : RawPlan → List ℕ
raw_plan p = fields (u32 p.at ∷ u32 p.copied ∷ counted u32 raw_target p.targets ∷ counted u32 extent p.segments ∷ [])

unfoldable pub maybe_plan : Option RawPlan → List ℕ
maybe_plan None = u8 0
maybe_plan (Some p) = u8 1 ++ raw_plan p

unfoldable pub dataset : Dataset → List ℕ
dataset w =
    fields (u32 w.number ∷ text w.name ∷ schema w.schema ∷ u32 w.records ∷ u32 w.p ∷ u32 w.q ∷ u32 w.next
    ∷ counted u32 version w.versions ∷ counted u32 part w.parts ∷ maybe_plan w.plan ∷ [])

-- ---- events

unfoldable pub spelling : Event → List ℕ
spelling (Init name s rows list segment) = fields (u8 1 ∷ text name ∷ schema s ∷ u32 rows ∷ extent list ∷ extent segment ∷ [])
spelling (Commit cvd vid message ps rows fresh placed added list segment) =
    fields (u8 2 ∷ u32 cvd ∷ u32 vid ∷ text message ∷ parents ps ∷ u32 rows ∷ u32 fresh ∷ place placed ∷ u32 added ∷ extent list ∷ extent segment ∷ [])
spelling (Plan cvd p q targets) = fields (u8 3 ∷ u32 cvd ∷ u32 p ∷ u32 q ∷ counted u32 target targets ∷ [])
spelling (Copy cvd count segment) = fields (u8 4 ∷ u32 cvd ∷ u32 count ∷ extent segment ∷ [])
spelling (Flip cvd) = fields (u8 5 ∷ u32 cvd ∷ [])
spelling (Drop cvd) = fields (u8 6 ∷ u32 cvd ∷ [])
spelling (Base next) = fields (u8 7 ∷ u32 next ∷ [])
spelling (Whole w) = fields (u8 8 ∷ dataset w ∷ [])
spelling (Wide cvd vid message columns ps rows fresh placed added list segment) =
    fields (u8 9 ∷ u32 cvd ∷ u32 vid ∷ text message ∷ counted u8 column columns ∷ parents ps ∷ u32 rows ∷ u32 fresh ∷ place placed ∷ u32 added ∷ extent list ∷ extent segment ∷ [])

-- ---- what has a spelling: each number, length and number of items fits its field, and texts are UTF-8

abbrev pub IsColumn : Column → Type 0
IsColumn c = IsText c.name

abbrev pub AreColumns : List Column → Type 0
AreColumns cs = AreFew 8 IsColumn cs

abbrev pub IsSchema : RawSchema → Type 0
IsSchema s = AreColumns s.columns × AreFew 8 IsU8 s.key

abbrev pub AreParents : List (ℕ × ℕ) → Type 0
AreParents ps = AreFew 16 (λ p. IsU32 p.0 × IsU32 p.1) ps

abbrev pub IsPlaced : Placed → Type 0
IsPlaced Own = Unit {0}
IsPlaced (Join partition) = IsU32 partition

abbrev pub AreNumbers : List ℕ → Type 0
AreNumbers ns = AreFew 32 IsU32 ns

abbrev pub IsTarget : PlanTarget → Type 0
IsTarget t = IsU32 t.size × IsU32 t.source × AreNumbers t.kept × IsU32 t.kept_records

abbrev pub IsVersion : RawVersion → Type 0
IsVersion v = AreParents v.parents × IsText v.message × IsU32 v.rows × IsU32 v.fresh × IsExtent v.list

abbrev pub IsPart : RawPart → Type 0
IsPart p = IsU32 p.id × AreNumbers p.versions × AreNumbers p.holds × IsU32 p.records × AreFew 32 IsExtent p.segments

abbrev pub IsRawTarget : RawTarget → Type 0
IsRawTarget t = AreNumbers t.versions × IsU32 t.size × IsU32 t.source × AreNumbers t.kept × IsU32 t.kept_records

abbrev pub IsRawPlan : RawPlan → Type 0
IsRawPlan p = IsU32 p.at × IsU32 p.copied × AreFew 32 IsRawTarget p.targets × AreFew 32 IsExtent p.segments

abbrev pub IsMaybePlan : Option RawPlan → Type 0
IsMaybePlan None = Unit {0}
IsMaybePlan (Some p) = IsRawPlan p

pub record IsDataset (w : Dataset) : Type 0 where
  pub number : IsU32 w.number
  pub name : IsText w.name
  pub schema : IsSchema w.schema
  pub records : IsU32 w.records
  pub p : IsU32 w.p
  pub q : IsU32 w.q
  pub next : IsU32 w.next
  pub versions : AreFew 32 IsVersion w.versions
  pub parts : AreFew 32 IsPart w.parts
  pub plan : IsMaybePlan w.plan

unfoldable pub IsEvent : Event → Type 0
IsEvent (Init name s rows list segment) = IsText name × IsSchema s × IsU32 rows × IsExtent list × IsExtent segment
IsEvent (Commit cvd vid message ps rows fresh placed added list segment) =
    IsU32 cvd × IsU32 vid × IsText message × AreParents ps × IsU32 rows × IsU32 fresh × IsPlaced placed × IsU32 added × IsExtent list × IsExtent segment
IsEvent (Plan cvd p q targets) = IsU32 cvd × IsU32 p × IsU32 q × AreFew 32 IsTarget targets
IsEvent (Copy cvd count segment) = IsU32 cvd × IsU32 count × IsExtent segment
IsEvent (Flip cvd) = IsU32 cvd
IsEvent (Drop cvd) = IsU32 cvd
IsEvent (Base next) = IsU32 next
IsEvent (Whole w) = IsDataset w
IsEvent (Wide cvd vid message columns ps rows fresh placed added list segment) =
    IsU32 cvd × IsU32 vid × IsText message × AreColumns columns × AreParents ps × IsU32 rows × IsU32 fresh × IsPlaced placed × IsU32 added × IsExtent list × IsExtent segment
