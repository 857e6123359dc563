-- What the numbers of a World are, and what its lists and segments have: of a list the rids, of a segment rids with the bytes
-- of their rows. A row's bytes don't depend on NULLs at its end, so added columns change no segment.
--     shown w      the World in numbers
--     event_of m w      the event of a move; None of a checkpoint, which has a snapshot, of a commit or a plan of a dataset that
--         isn't there, and of a copy where no plan runs
--     snapshot_of w      the events of a checkpoint
use Rattle.std.specs.Prelude.{ℕ, ◌+◌, nat_le, ◌==◌, if◌then◌else◌, List, [], ◌∷◌, ◌++◌, length, map, take, Option, Some, None, codes}
use Rattle.ov_event.specs.declared.event.PlanTarget.{PlanTarget}
use Rattle.ov_place.specs.declared.place_facts.Place.{Place}
use Rattle.ov_place.specs.declared.place_facts.Place.TheVariants.{Own, Join}
use Rattle.ov_value.specs.declared.column.Column.{Column}
use Rattle.ov_value.specs.declared.spelled.RowBytes.{RowBytes}
use Rattle.ov_value.specs.Shapes.{Shape}
use Rattle.ov_value.specs.Spelling.{row_spelling}
use Rattle.ov_model.specs.Book.{Version}
use Rattle.ov_model.specs.Lists.{joined}
use Rattle.ov_model.specs.Moves as moves
use Rattle.ov_model.specs.Moves.{Move, piece_of, placed_at, numbered, wide}
use Rattle.ov_model.specs.Plans.{records_in, parts_at, targets_of, missing}
use Rattle.ov_model.specs.Records.{Rec, recs, records_of, order_of, fresh_in, rid_in, weights, lacking}
use Rattle.ov_model.specs.World.{Part, Target, Dataset, World, held, first_set}
use Rattle.ov_model.specs.World as worlds
use Rattle.ov_catalog.specs.Numbers.{VersionNumbers, PartNumbers, TargetNumbers, PlanNumbers, SetNumbers, Numbers}
use Rattle.ov_catalog.specs.Events.{Event, Init, Commit, Plan, Copy, Flip, Drop, Base, Whole, Wide, version_of}

-- ---- what lists and segments have

abbrev pub Rids : Type 0
Rids = List ℕ

abbrev pub Records : Type 0
Records = List (ℕ × RowBytes)

-- by a number, ascending
abbrev pub put_by : {X : Type 0} → (X → ℕ) → X → List X → List X
put_by key x [] = x ∷ []
put_by key x (y ∷ ys) = if nat_le (key x) (key y) then x ∷ y ∷ ys else y ∷ put_by key x ys

abbrev pub sorted_by : {X : Type 0} → (X → ℕ) → List X → List X
sorted_by key [] = []
sorted_by key (x ∷ xs) = put_by key x (sorted_by key xs)

-- the list of a version that has these records; `all` are the records of the dataset, in the order of their rids
abbrev pub list_of : List Rec → List Rec → Rids
list_of all rs = sorted_by (λ rid. rid) (map (rid_in all) rs)

abbrev pub kept_as : List Rec → Rec → ℕ × RowBytes
kept_as all r = (rid_in all r, row_spelling r.row)

-- the segment of a piece
abbrev pub segment_of : List Rec → List Rec → Records
segment_of all piece = sorted_by (λ kept. kept.0) (map (kept_as all) piece)

-- ---- a World in numbers

-- `done` are the records of the versions before
abbrev pub shown_version : List Rec → List (List Rec) → Version → VersionNumbers Rids
shown_version all done v =
    version_of (weights v.parents (records_of v done) done) v.message (length v.rows)
    (length (fresh_in (records_of v done) (length done + 1))) (list_of all (records_of v done))

abbrev pub shown_versions : List Rec → List (List Rec) → List Version → List (VersionNumbers Rids)
shown_versions all done [] = []
shown_versions all done (v ∷ vs) = shown_version all done v ∷ shown_versions all (done ++ records_of v done ∷ []) vs

abbrev pub shown_part : List Rec → Part → PartNumbers Records
shown_part all part = record {
  id = part.id;
  versions = part.versions;
  holds = part.holds;
  records = length (held part);
  segments = map (segment_of all) part.pieces;
}

abbrev pub shown_target : Dataset → Target → TargetNumbers
shown_target d t = record {
  versions = t.versions;
  size = length (records_in d.cvd t.versions);
  source = t.source;
  kept = t.kept;
  kept_records = t.kept_records;
}

abbrev pub shown_plan : Dataset → Option worlds.Plan → Option (PlanNumbers Records)
shown_plan d None = None
shown_plan d (Some plan) = Some (record {
  p = plan.p;
  q = plan.q;
  targets = map (shown_target d) plan.targets;
  at = plan.at;
  copied = length (joined plan.copied);
  segments = map (segment_of (order_of d.cvd.versions)) plan.copied;
})

abbrev pub shown_set : Dataset → SetNumbers Rids Records
shown_set d = record {
  number = d.cvd.number;
  name = d.cvd.name;
  schema = d.cvd.schema;
  versions = shown_versions (order_of d.cvd.versions) [] d.cvd.versions;
  parts = map (shown_part (order_of d.cvd.versions)) d.parts;
  next_part = d.next_part;
  threshold = d.threshold;
  plan = shown_plan d d.plan;
  records = length (order_of d.cvd.versions);
}

abbrev pub shown : World → Numbers Rids Records
shown w = record { next = w.next; sets = map shown_set w.sets }

-- ---- the events of moves

abbrev pub init_event : List ℕ → Version → (schema : Shape) → Event Rids Records
init_event name v schema =
    Init name schema (length v.rows) (list_of (order_of (v ∷ [])) (records_of v []))
    (map (segment_of (order_of (v ∷ []))) (piece_of (records_of v [])))

-- the partition of this number; one without records where there is none
abbrev pub held_by : List Part → ℕ → List Rec
held_by [] id = []
held_by (part ∷ parts) id = if part.id == id then held part else held_by parts id

-- the records that a version brings to its partition
abbrev pub added_to : Place → List Part → List Rec → List Rec
added_to Own parts rs = rs
added_to (Join id) parts rs = lacking rs (held_by parts id)

-- of a commit without added columns
abbrev pub commit_event : ℕ → Dataset → Version → Event Rids Records
commit_event cvd d v =
    let done : List (List Rec) = recs d.cvd.versions []
    in let rs : List Rec = records_of v done
    in let all : List Rec = order_of (d.cvd.versions ++ v ∷ [])
    in let more : List Rec = added_to (placed_at d v) d.parts rs
    in Commit cvd (length d.cvd.versions + 1) v.message (weights v.parents rs done) (length v.rows)
    (length (fresh_in rs (length done + 1))) (placed_at d v) (length more) (list_of all rs) (map (segment_of all) (piece_of more))

-- of a commit to a dataset that has the added columns
abbrev pub wide_event : ℕ → List Column → Dataset → Version → Event Rids Records
wide_event cvd columns d v =
    let done : List (List Rec) = recs d.cvd.versions []
    in let rs : List Rec = records_of v done
    in let all : List Rec = order_of (d.cvd.versions ++ v ∷ [])
    in let more : List Rec = added_to (placed_at d v) d.parts rs
    in Wide cvd (length d.cvd.versions + 1) v.message columns (weights v.parents rs done) (length v.rows)
    (length (fresh_in rs (length done + 1))) (placed_at d v) (length more) (list_of all rs) (map (segment_of all) (piece_of more))

-- what a plan says of a target
abbrev pub said_of : TargetNumbers → PlanTarget
said_of t = record { size = t.size; source = t.source; kept = t.kept; kept_records = t.kept_records }

abbrev pub plan_event : ℕ → ℕ → ℕ → Dataset → Event Rids Records
plan_event cvd p q d = Plan cvd p q (map (λ t. said_of (shown_target d t)) (targets_of d (parts_at d p q)))

-- a copy's records are one piece, whose segment has them all
abbrev pub copy_event : ℕ → Dataset → worlds.Plan → Event Rids Records
copy_event cvd d plan =
    let piece : List Rec = take 256 (missing d plan)
    in Copy cvd (length piece) (segment_of (order_of d.cvd.versions) piece ∷ [])

abbrev pub copy_for : ℕ → Dataset → Option worlds.Plan → Option (Event Rids Records)
copy_for cvd d None = None
copy_for cvd d (Some plan) = Some (copy_event cvd d plan)

-- of a dataset that is there
abbrev pub in_set : {X : Type 0} → (Dataset → Option X) → Option Dataset → Option X
in_set f None = None
in_set f (Some d) = f d

abbrev pub commit_in : ℕ → Version → Option Dataset → Option (Event Rids Records)
commit_in cvd v found = in_set (λ d. Some (commit_event cvd d v)) found

abbrev pub event_of : Move → World → Option (Event Rids Records)
event_of (moves.Init name schema rows) w = Some (init_event name (moves.version_of [] (codes "init") rows) schema)
event_of (moves.Commit cvd parents message [] rows) w = commit_in cvd (moves.version_of parents message rows) (first_set (numbered cvd) w.sets)
event_of (moves.Commit cvd parents message (column ∷ added) rows) w =
    in_set (λ d. Some (wide_event cvd (column ∷ added) (wide (column ∷ added) d) (moves.version_of parents message rows))) (first_set (numbered cvd) w.sets)
event_of (moves.BeginPlan cvd p q) w = in_set (λ d. Some (plan_event cvd p q d)) (first_set (numbered cvd) w.sets)
event_of (moves.Copy cvd) w = in_set (λ d. copy_for cvd d d.plan) (first_set (numbered cvd) w.sets)
event_of (moves.Flip cvd) w = Some (Flip cvd)
event_of (moves.Drop cvd) w = Some (Drop cvd)
event_of moves.Checkpoint w = None

-- the next dataset's number, and then each dataset as it stands, in order of creation
abbrev pub snapshot_of : World → List (Event Rids Records)
snapshot_of w = Base w.next ∷ map (λ d. Whole (shown_set d)) w.sets
