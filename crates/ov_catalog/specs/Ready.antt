-- What a catalog keeps ready, so that an event takes no memory.
--     Kept      what contracts see of a catalog
--     HasRoom e n ready      there is room for the event, which comes to these numbers
use Rattle.std.specs.Prelude.{◌≡◌, ◌+◌, ◌≤◌, ◌<◌, ◌^◌, ℕ, List, [], length, map, Vec, vec_capacity, codes, Option, None, Some, All, true, false}
use Rattle.std.specs.declared.alloc.Global.{Global}
use Rattle.ov_event.specs.declared.event.Event as raw
use Rattle.ov_event.specs.declared.event.Event.TheVariants as says
use Rattle.ov_event.specs.declared.event.PlanTarget.{PlanTarget}
use Rattle.ov_graph.specs.Versions.{IsGraph}
use Rattle.ov_host.specs.declared.area.Extent.{Extent}
use Rattle.ov_layout.specs.declared.room.Room as layout
use Rattle.ov_layout.specs.declared.room.Room.TheVariants as layout_for
use Rattle.ov_layout.specs.Parts.{Ascend, is_placed}
use Rattle.ov_layout.specs.Changes.{IsNew, IsAbove}
use Rattle.ov_place.specs.declared.place_facts.Place.{Place}
use Rattle.ov_place.specs.declared.place_facts.Place.TheVariants.{Own, Join}
use Rattle.ov_value.specs.Shapes.{Shape}
use Rattle.ov_value.specs.declared.column.Column.{Column}
use Rattle.ov_model.specs.Moves.{wide_schema}
use Rattle.ov_catalog.specs.declared.cvd.Cvd.{Cvd}
use Rattle.ov_catalog.specs.declared.cvd.Plan.{Plan}
use Rattle.ov_catalog.specs.declared.cvd.Target.{Target}
use Rattle.ov_catalog.specs.declared.reach.Reach as came
use Rattle.ov_catalog.specs.declared.reach.Reach.TheVariants as came_to
use Rattle.ov_catalog.specs.declared.room.Room.{Room}
use Rattle.ov_catalog.specs.declared.room.Room.TheVariants as kept_for
use Rattle.ov_catalog.specs.declared.room.Spare.{Spare}
use Rattle.ov_catalog.specs.Numbers.{Numbers, SetNumbers}
use Rattle.ov_catalog.specs.Raw.{place_in, shape_in}
use Rattle.ov_catalog.specs.Events.{graph_of, planned}
use Rattle.ov_catalog.specs.Running.{IsPlanned, IsRunning, current, left_of}
use Rattle.ov_catalog.specs.Applying.{Reach, AtStart, InSnapshot, Beyond, set_numbered}
use Rattle.ov_catalog.specs.Sets.{numbers_of, plan_in, set_in, version_in}
use Rattle.ov_catalog.specs.Thresholds.{IsSaid}

-- for which event there is room: for none, for an Init with a schema, for a Commit to a dataset at a place, for a Wide there that
-- leaves this schema, for a Plan of a dataset at a threshold with what is said of its targets, for a Copy or a Flip in a dataset
pub data Ready : Type 0 where
  Nothing : Ready
  ForInit : Shape → Ready
  ForCommit : ℕ → Place → Ready
  ForWide : ℕ → Place → Shape → Ready
  ForPlan : (cvd p q : ℕ) → List PlanTarget → Ready
  ForCopy : ℕ → Ready
  ForFlip : ℕ → Ready

-- the numbers, for which event there is room, and how far the half of the journal has come whose events were applied
pub record Kept : Type 0 where
  pub numbers : Numbers Extent Extent
  pub ready : Ready
  pub reach : Reach

-- for a Wide to this dataset, where it is there
abbrev pub IsForWide : {L S : Type 0} → ℕ → Place → List Column → Option (SetNumbers L S) → Ready → Type 0
IsForWide cvd place columns None ready = ⊥
IsForWide cvd place columns (Some d) ready = ready ≡ ForWide cvd place (wide_schema d.schema columns)

-- A drop needs no room. None is made for the events of a snapshot.
abbrev pub HasRoom : {L S : Type 0} → raw.Event → Numbers L S → Ready → Type 0
HasRoom (says.Init name schema rows list segment) n ready = ready ≡ ForInit (shape_in schema)
HasRoom (says.Commit cvd vid message parents rows fresh place added list segment) n ready = ready ≡ ForCommit cvd (place_in place)
HasRoom (says.Plan cvd p q targets) n ready = ready ≡ ForPlan cvd p q targets
HasRoom (says.Copy cvd count segment) n ready = ready ≡ ForCopy cvd
HasRoom (says.Flip cvd) n ready = ready ≡ ForFlip cvd
HasRoom (says.Drop cvd) n ready = Unit {0}
HasRoom (says.Base next) n ready = ⊥
HasRoom (says.Whole said) n ready = ⊥
HasRoom (says.Wide cvd vid message columns parents rows fresh place added list segment) n ready =
    IsForWide cvd (place_in place) columns (set_numbered cvd n) ready

abbrev pub IsForInit : Ready → Type 0
IsForInit Nothing = ⊥
IsForInit (ForInit schema) = Unit {0}
IsForInit _ = ⊥

-- what a Plan said of a target
abbrev pub said_by : Target → PlanTarget
said_by t = record { size = t.size; source = t.source; kept = t.kept; kept_records = t.kept_records }

abbrev pub ready_in : Room → Ready
ready_in kept_for.Nothing = Nothing
ready_in (kept_for.Init spare) = ForInit spare.schema
ready_in (kept_for.Commit cvd place) = ForCommit cvd (place_in place)
ready_in (kept_for.Wide cvd place schema) = ForWide cvd (place_in place) schema
ready_in (kept_for.Plan cvd plan) = ForPlan cvd plan.p plan.q (map said_by plan.targets)
ready_in (kept_for.Copy cvd) = ForCopy cvd
ready_in (kept_for.Flip cvd versions) = ForFlip cvd

-- within a snapshot the next dataset's number is the one that its Base says
abbrev pub reach_in : ℕ → came.Reach → Reach
reach_in next came_to.AtStart = AtStart
reach_in next (came_to.InSnapshot last) = InSnapshot next last
reach_in next came_to.Beyond = Beyond

-- within a snapshot no dataset's number is above the last one's
abbrev pub AreUpTo : came.Reach → List ℕ → Type 0
AreUpTo came_to.AtStart numbers = Unit {0}
AreUpTo (came_to.InSnapshot last) numbers = IsAbove (last + 1) numbers
AreUpTo came_to.Beyond numbers = Unit {0}

-- What is true of each dataset: it has versions, not too many, each with parents among those before it; all are placed, and no
-- partition has another one; its records have numbers; so many numbers are left for partitions that each target that wasn't flipped and each later version
-- can have one; a plan that runs can run to its end; and a Whole can say the threshold and the plan.
pub record IsSet (d : Cvd) : Type 0 where
  pub some : 1 ≤ length d.versions.items
  pub few : length d.versions.items ≤ 65535
  pub graph : IsGraph (graph_of (map version_in d.versions.items))
  pub new : IsNew (length d.versions.items + 1) d.layout.parts
  pub placed : (vid : ℕ) → 1 ≤ vid → vid ≤ length d.versions.items → is_placed d.layout.parts vid ≡ true
  pub none_other : is_placed d.layout.parts 0 ≡ false
  pub records : d.records < 2 ^ 32
  pub next : d.layout.next + length (left_of d.plan) + 65535 < 2 ^ 32 + length d.versions.items
  pub plan : IsPlanned (length d.versions.items) d.layout.parts d.plan
  pub threshold : IsSaid d.threshold (plan_in d.plan)

-- a dataset without its versions, with room for one
pub record IsSpare (spare : Spare) : Type 0 where
  pub message : spare.message ≡ codes "init"
  pub versions : spare.versions.items ≡ []
  pub version_fits : 1 ≤ vec_capacity spare.versions
  pub layout : spare.layout ≡ record { parts = []; next = 1; room = layout_for.Placing 0 }

abbrev pub layout_room : Place → layout.Room
layout_room Own = layout_for.Placing 0
layout_room (Join id) = layout_for.Joining id

-- the dataset has room for a version more, at this place
pub record FitsVersion (place : Place) (d : Cvd) : Type 0 where
  pub version : length d.versions.items < vec_capacity d.versions
  pub layout : d.layout.room ≡ layout_room place

abbrev pub FitsNumbered : ℕ → Place → Cvd → Type 0
FitsNumbered cvd place d = d.number ≡ cvd → FitsVersion place d

-- a plan that can begin in a dataset: by what was said of its targets, and so that it can run
pub record CanBegin (plan : Plan) (d : Cvd) : Type 0 where
  pub idle : d.plan ≡ None
  pub threshold : IsSaid (Some (plan.p, plan.q)) (plan_in (Some plan))
  pub begins : plan_in (Some plan) ≡ (planned plan.p plan.q (map said_by plan.targets) (set_in d)).plan
  pub next : d.layout.next + length plan.targets + 65535 < 2 ^ 32 + length d.versions.items
  pub runs : IsRunning (length d.versions.items) d.layout.parts plan

abbrev pub CanBeginIn : ℕ → Plan → Cvd → Type 0
CanBeginIn cvd plan d = d.number ≡ cvd → CanBegin plan d

-- its plan's target has room for a segment more
abbrev pub HasSegment : Option Plan → Type 0
HasSegment None = Unit {0}
HasSegment (Some plan) = length plan.segments.items < vec_capacity plan.segments

abbrev pub HasSegmentIn : ℕ → Cvd → Type 0
HasSegmentIn cvd d = d.number ≡ cvd → HasSegment d.plan

-- its plan's target, which has these versions, can become a partition: there is room for the segments that it keeps, and for it
pub record CanFlip (versions : List ℕ) (room : layout.Room) (plan : Plan) : Type 0 where
  pub versions_are : versions ≡ (current plan).versions
  pub kept : length plan.segments.items + length (current plan).kept ≤ vec_capacity plan.segments
  pub room_is : room ≡ layout_for.Placing (length versions)

abbrev pub MayFlip : List ℕ → layout.Room → Option Plan → Type 0
MayFlip versions room None = Unit {0}
MayFlip versions room (Some plan) = CanFlip versions room plan

abbrev pub MayFlipIn : ℕ → List ℕ → Cvd → Type 0
MayFlipIn cvd versions d = d.number ≡ cvd → MayFlip versions d.layout.room d.plan

abbrev pub HasSpace : Room → Vec Cvd Global → Type 0
HasSpace kept_for.Nothing sets = Unit {0}
HasSpace (kept_for.Init spare) sets = IsSpare spare × (length sets.items < vec_capacity sets) × (length sets.items < 1024)
HasSpace (kept_for.Commit cvd place) sets = All (FitsNumbered cvd (place_in place)) sets.items
HasSpace (kept_for.Wide cvd place schema) sets = All (FitsNumbered cvd (place_in place)) sets.items
HasSpace (kept_for.Plan cvd plan) sets = All (CanBeginIn cvd plan) sets.items
HasSpace (kept_for.Copy cvd) sets = All (HasSegmentIn cvd) sets.items
HasSpace (kept_for.Flip cvd versions) sets = All (MayFlipIn cvd versions.items) sets.items

-- there are few datasets, which stand by their numbers, and these are below the next one
pub record AreSets (next : ℕ) (sets : List Cvd) : Type 0 where
  pub few : length sets ≤ 1024
  pub ascend : Ascend 0 (numbers_of sets)
  pub below : IsAbove next (numbers_of sets)
  pub sound : All IsSet sets
