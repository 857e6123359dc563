-- What the journal's events say of the live datasets, in numbers. Where an extent stands there is a hole: `L` is what fills
-- those of versions' lists, `S` those of segments. So the same words speak of extents, of what is read there, and of what a
-- World asks for.
--     Numbers L S      all of it
--     each f g n      the same with other fillings
use Rattle.std.specs.Prelude.{ℕ, List, [], map, Option, Some, None}
use Rattle.ov_value.specs.Shapes.{Shape}

-- a version: its parents with the weights of their edges, its message, how many rows it has, how many of them are new
-- records, and its list
pub record VersionNumbers (L : Type 0) : Type 0 where
  pub parents : List (ℕ × ℕ)
  pub message : List ℕ
  pub rows : ℕ
  pub fresh : ℕ
  pub list : L

-- a partition: its number, the versions that it serves, those whose records it keeps, how many records that are, and a
-- segment for each piece
pub record PartNumbers (S : Type 0) : Type 0 where
  pub id : ℕ
  pub versions : List ℕ
  pub holds : List ℕ
  pub records : ℕ
  pub segments : List S

-- a target of a plan: its versions, how many records they have, the partition whose segments it keeps, 0 for none, the places
-- of these, counted from 0, and how many records they have
pub record TargetNumbers : Type 0 where
  pub versions : List ℕ
  pub size : ℕ
  pub source : ℕ
  pub kept : List ℕ
  pub kept_records : ℕ

-- a running plan: its threshold p / q, its targets, which of them is the current one, counted from 0, how many records were
-- copied for it, and their segments
pub record PlanNumbers (S : Type 0) : Type 0 where
  pub p : ℕ
  pub q : ℕ
  pub targets : List TargetNumbers
  pub at : ℕ
  pub copied : ℕ
  pub segments : List S

-- a dataset: its number, its name, its schema, its versions, its partitions by number, the next partition's number, the
-- threshold of the last plan, the running plan, and how many distinct records it has
pub record SetNumbers (L S : Type 0) : Type 0 where
  pub number : ℕ
  pub name : List ℕ
  pub schema : Shape
  pub versions : List (VersionNumbers L)
  pub parts : List (PartNumbers S)
  pub next_part : ℕ
  pub threshold : Option (ℕ × ℕ)
  pub plan : Option (PlanNumbers S)
  pub records : ℕ

-- the live datasets in order of creation, and the number that the next one gets
pub record Numbers (L S : Type 0) : Type 0 where
  pub next : ℕ
  pub sets : List (SetNumbers L S)

abbrev pub nothing_yet : {L S : Type 0} → Numbers L S
nothing_yet = record { next = 1; sets = [] }

-- ---- other fillings

abbrev pub each_version : {L M : Type 0} → (L → M) → VersionNumbers L → VersionNumbers M
each_version f v = record { parents = v.parents; message = v.message; rows = v.rows; fresh = v.fresh; list = f v.list }

abbrev pub each_part : {S T : Type 0} → (S → T) → PartNumbers S → PartNumbers T
each_part g part = record { id = part.id; versions = part.versions; holds = part.holds; records = part.records; segments = map g part.segments }

abbrev pub each_plan : {S T : Type 0} → (S → T) → Option (PlanNumbers S) → Option (PlanNumbers T)
each_plan g None = None
each_plan g (Some plan) = Some (record { p = plan.p; q = plan.q; targets = plan.targets; at = plan.at; copied = plan.copied; segments = map g plan.segments })

abbrev pub each_set : {L M S T : Type 0} → (L → M) → (S → T) → SetNumbers L S → SetNumbers M T
each_set f g d = record {
  number = d.number;
  name = d.name;
  schema = d.schema;
  versions = map (each_version f) d.versions;
  parts = map (each_part g) d.parts;
  next_part = d.next_part;
  threshold = d.threshold;
  plan = each_plan g d.plan;
  records = d.records;
}

abbrev pub each : {L M S T : Type 0} → (L → M) → (S → T) → Numbers L S → Numbers M T
each f g n = record { next = n.next; sets = map (each_set f g) n.sets }
