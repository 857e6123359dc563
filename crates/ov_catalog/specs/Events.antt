-- Events over numbers, with the same holes.
--     applied e n      the numbers after an event that applies
--     replayed es n      after several, one after another
use Rattle.std.specs.Prelude.{ℕ, ◌+◌, ◌-◌, Bool, not, ◌==◌, nat_lt, if◌then◌else◌, List, [], ◌∷◌, ◌++◌, length, map, filter, slice_index_or, Option, Some, None, codes}
use Rattle.std.specs.List.{flat_map, list_any}
use Rattle.ov_event.specs.declared.event.PlanTarget.{PlanTarget}
use Rattle.ov_graph.specs.Splits.{parts_of}
use Rattle.ov_graph.specs.Versions as graph
use Rattle.ov_place.specs.declared.place_facts.Place.{Place}
use Rattle.ov_place.specs.declared.place_facts.Place.TheVariants.{Own, Join}
use Rattle.ov_value.specs.declared.column.Column.{Column}
use Rattle.ov_value.specs.Shapes.{Shape}
use Rattle.ov_model.specs.Moves.{next_with, wide_schema}
use Rattle.ov_catalog.specs.Numbers.{VersionNumbers, PartNumbers, TargetNumbers, PlanNumbers, SetNumbers, Numbers, each_set}

pub data Event (L S : Type 0) : Type 0 where
  -- a dataset begins with its first version
  Init : (name : List ℕ) (schema : Shape) (rows : ℕ) (list : L) (segments : List S) → Event L S
  -- a version more of a dataset; `added` records come to its partition, in a segment or in none
  Commit : (cvd vid : ℕ) (message : List ℕ) (parents : List (ℕ × ℕ)) (rows fresh : ℕ) (place : Place) (added : ℕ) (list : L) (segments : List S) → Event L S
  -- a plan of a dataset begins, at the threshold p / q, with what is said of the targets
  Plan : (cvd p q : ℕ) (targets : List PlanTarget) → Event L S
  -- its current target takes so many records, in a segment
  Copy : (cvd count : ℕ) (segments : List S) → Event L S
  -- its current target becomes a partition
  Flip : (cvd : ℕ) → Event L S
  -- a dataset goes
  Drop : (cvd : ℕ) → Event L S
  -- a snapshot begins, with the number that the next dataset gets
  Base : (next : ℕ) → Event L S
  -- a dataset as it stands
  Whole : (set : SetNumbers L S) → Event L S
  -- a version more, with columns added at the right
  Wide : (cvd vid : ℕ) (message : List ℕ) (columns : List Column) (parents : List (ℕ × ℕ)) (rows fresh : ℕ) (place : Place) (added : ℕ) (list : L) (segments : List S) → Event L S

abbrev pub each_event : {L M S T : Type 0} → (L → M) → (S → T) → Event L S → Event M T
each_event f g (Init name schema rows list segments) = Init name schema rows (f list) (map g segments)
each_event f g (Commit cvd vid message parents rows fresh place added list segments) = Commit cvd vid message parents rows fresh place added (f list) (map g segments)
each_event f g (Plan cvd p q targets) = Plan cvd p q targets
each_event f g (Copy cvd count segments) = Copy cvd count (map g segments)
each_event f g (Flip cvd) = Flip cvd
each_event f g (Drop cvd) = Drop cvd
each_event f g (Base next) = Base next
each_event f g (Whole d) = Whole (each_set f g d)
each_event f g (Wide cvd vid message columns parents rows fresh place added list segments) = Wide cvd vid message columns parents rows fresh place added (f list) (map g segments)

-- the event of a version to whose dataset these columns are added; with none it is as it was
abbrev pub adding_event : {L S : Type 0} → List Column → Event L S → Event L S
adding_event [] e = e
adding_event (column ∷ added) (Commit cvd vid message parents rows fresh place more list segments) =
    Wide cvd vid message (column ∷ added) parents rows fresh place more list segments
adding_event (column ∷ added) e = e

abbrev pub own_part : {S : Type 0} → ℕ → ℕ → ℕ → List S → PartNumbers S
own_part id vid records segments = record { id = id; versions = vid ∷ []; holds = vid ∷ []; records = records; segments = segments }

-- a partition that takes a version more, with so many records that it lacked
abbrev pub with_joined : {S : Type 0} → ℕ → ℕ → List S → PartNumbers S → PartNumbers S
with_joined vid added segments part = record {
  id = part.id;
  versions = part.versions ++ vid ∷ [];
  holds = part.holds ++ vid ∷ [];
  records = part.records + added;
  segments = part.segments ++ segments;
}

-- at the partition of this number
abbrev pub join_at : {S : Type 0} → ℕ → ℕ → ℕ → List S → List (PartNumbers S) → List (PartNumbers S)
join_at id vid added segments [] = []
join_at id vid added segments (part ∷ parts) =
    if part.id == id then with_joined vid added segments part ∷ parts else part ∷ join_at id vid added segments parts

abbrev pub parts_with : {S : Type 0} → Place → ℕ → ℕ → ℕ → List S → List (PartNumbers S) → List (PartNumbers S)
parts_with Own next vid added segments parts = parts ++ own_part next vid added segments ∷ []
parts_with (Join id) next vid added segments parts = join_at id vid added segments parts

abbrev pub version_of : {L : Type 0} → List (ℕ × ℕ) → List ℕ → ℕ → ℕ → L → VersionNumbers L
version_of parents message rows fresh list = record { parents = parents; message = message; rows = rows; fresh = fresh; list = list }

-- a dataset as an Init makes it
abbrev pub new_set : {L S : Type 0} → ℕ → List ℕ → Shape → ℕ → L → List S → SetNumbers L S
new_set number name schema rows list segments = record {
  number = number;
  name = name;
  schema = schema;
  versions = version_of [] (codes "init") rows rows list ∷ [];
  parts = own_part 1 1 rows segments ∷ [];
  next_part = 2;
  threshold = None;
  plan = None;
  records = rows;
}

-- the dataset with one version more
abbrev pub with_version : {L S : Type 0} → VersionNumbers L → Place → ℕ → List S → SetNumbers L S → SetNumbers L S
with_version v place added segments d = record {
  number = d.number;
  name = d.name;
  schema = d.schema;
  versions = d.versions ++ v ∷ [];
  parts = parts_with place d.next_part (length d.versions + 1) added segments d.parts;
  next_part = next_with place d.next_part;
  threshold = d.threshold;
  plan = d.plan;
  records = d.records + v.fresh;
}

-- the dataset with columns added at the right; its numbers stay
abbrev pub with_columns : {L S : Type 0} → List Column → SetNumbers L S → SetNumbers L S
with_columns added d = record {
  number = d.number;
  name = d.name;
  schema = wide_schema d.schema added;
  versions = d.versions;
  parts = d.parts;
  next_part = d.next_part;
  threshold = d.threshold;
  plan = d.plan;
  records = d.records;
}

-- ---- plans

-- the versions with their numbers of rows and the weights of their edges
abbrev pub graph_of : {L : Type 0} → List (VersionNumbers L) → List graph.Version
graph_of versions = map (λ v. record { records = v.rows; parents = v.parents }) versions

-- the parts of the split of its reduced tree
abbrev pub parts_at : {L S : Type 0} → ℕ → ℕ → SetNumbers L S → List (List ℕ)
parts_at p q d = parts_of (graph.reduced (graph_of d.versions)) p q

abbrev pub target_of : List ℕ → PlanTarget → TargetNumbers
target_of versions t = record { versions = versions; size = t.size; source = t.source; kept = t.kept; kept_records = t.kept_records }

-- what is said of each part, in their order
abbrev pub targets_of : List (List ℕ) → List PlanTarget → List TargetNumbers
targets_of [] targets = []
targets_of (part ∷ parts) [] = []
targets_of (part ∷ parts) (t ∷ targets) = target_of part t ∷ targets_of parts targets

-- the dataset with another plan, and its threshold with it
abbrev pub with_plan : {L S : Type 0} → Option (ℕ × ℕ) → Option (PlanNumbers S) → SetNumbers L S → SetNumbers L S
with_plan threshold plan d = record {
  number = d.number;
  name = d.name;
  schema = d.schema;
  versions = d.versions;
  parts = d.parts;
  next_part = d.next_part;
  threshold = threshold;
  plan = plan;
  records = d.records;
}

abbrev pub planned : {L S : Type 0} → ℕ → ℕ → List PlanTarget → SetNumbers L S → SetNumbers L S
planned p q targets d =
    with_plan (Some (p, q)) (Some (record { p = p; q = q; targets = targets_of (parts_at p q d) targets; at = 0; copied = 0; segments = [] })) d

abbrev pub copied_for : {S : Type 0} → ℕ → List S → Option (PlanNumbers S) → Option (PlanNumbers S)
copied_for count segments None = None
copied_for count segments (Some plan) =
    Some (record { p = plan.p; q = plan.q; targets = plan.targets; at = plan.at; copied = plan.copied + count; segments = plan.segments ++ segments })

-- its plan's target with so many records more
abbrev pub copied_more : {L S : Type 0} → ℕ → List S → SetNumbers L S → SetNumbers L S
copied_more count segments d = with_plan d.threshold (copied_for count segments d.plan) d

-- whether it is one of these
abbrev pub is_one : List ℕ → ℕ → Bool
is_one ns n = list_any (λ m. m == n) ns

-- without these versions
abbrev pub leaving : {S : Type 0} → List ℕ → PartNumbers S → PartNumbers S
leaving versions part = record {
  id = part.id;
  versions = filter (λ vid. not (is_one versions vid)) part.versions;
  holds = part.holds;
  records = part.records;
  segments = part.segments;
}

abbrev pub is_empty : {S : Type 0} → PartNumbers S → Bool
is_empty part = length part.versions == 0

-- the partitions without these versions; a partition without versions goes
abbrev pub left_parts : {S : Type 0} → List ℕ → List (PartNumbers S) → List (PartNumbers S)
left_parts versions parts = filter (λ part. not (is_empty part)) (map (leaving versions) parts)

-- the segments of the partition of this number; none where there is no such partition
abbrev pub segments_at : {S : Type 0} → ℕ → List (PartNumbers S) → List S
segments_at id [] = []
segments_at id (part ∷ parts) = if part.id == id then part.segments else segments_at id parts

-- the one at this place, counted from 0, or none
abbrev pub one_at : {S : Type 0} → List S → ℕ → List S
one_at [] place = []
one_at (segment ∷ segments) place = if place == 0 then segment ∷ [] else one_at segments (place - 1)

-- those at these places
abbrev pub chosen : {S : Type 0} → List ℕ → List S → List S
chosen places segments = flat_map (one_at segments) places

abbrev pub no_target : TargetNumbers
no_target = record { versions = []; size = 0; source = 0; kept = []; kept_records = 0 }

abbrev pub current : {S : Type 0} → PlanNumbers S → TargetNumbers
current plan = slice_index_or plan.targets plan.at no_target

-- the current target as a partition: its segments are those that it keeps of its source, and then the copied ones
abbrev pub target_part : {S : Type 0} → ℕ → List (PartNumbers S) → PlanNumbers S → PartNumbers S
target_part id parts plan = record {
  id = id;
  versions = (current plan).versions;
  holds = (current plan).versions;
  records = (current plan).kept_records + plan.copied;
  segments = chosen (current plan).kept (segments_at (current plan).source parts) ++ plan.segments;
}

-- the plan at its next target; after the last one there is none
abbrev pub next_target : {S : Type 0} → PlanNumbers S → Option (PlanNumbers S)
next_target plan =
    if nat_lt (plan.at + 1) (length plan.targets)
    then Some (record { p = plan.p; q = plan.q; targets = plan.targets; at = plan.at + 1; copied = 0; segments = [] })
    else None

abbrev pub flipped_by : {L S : Type 0} → Option (PlanNumbers S) → SetNumbers L S → SetNumbers L S
flipped_by None d = d
flipped_by (Some plan) d = record {
  number = d.number;
  name = d.name;
  schema = d.schema;
  versions = d.versions;
  parts = left_parts (current plan).versions d.parts ++ target_part d.next_part d.parts plan ∷ [];
  next_part = d.next_part + 1;
  threshold = d.threshold;
  plan = next_target plan;
  records = d.records;
}

abbrev pub flipped : {L S : Type 0} → SetNumbers L S → SetNumbers L S
flipped d = flipped_by d.plan d

-- ---- events

abbrev pub numbered : {L S : Type 0} → ℕ → SetNumbers L S → Bool
numbered number d = d.number == number

-- a change of the dataset of this number
abbrev pub change : {L S : Type 0} → ℕ → (SetNumbers L S → SetNumbers L S) → List (SetNumbers L S) → List (SetNumbers L S)
change number f [] = []
change number f (d ∷ sets) = if numbered number d then f d ∷ sets else d ∷ change number f sets

abbrev pub applied : {L S : Type 0} → Event L S → Numbers L S → Numbers L S
applied (Init name schema rows list segments) n = record { next = n.next + 1; sets = n.sets ++ new_set n.next name schema rows list segments ∷ [] }
applied (Commit cvd vid message parents rows fresh place added list segments) n =
    record { next = n.next; sets = change cvd (with_version (version_of parents message rows fresh list) place added segments) n.sets }
applied (Plan cvd p q targets) n = record { next = n.next; sets = change cvd (planned p q targets) n.sets }
applied (Copy cvd count segments) n = record { next = n.next; sets = change cvd (copied_more count segments) n.sets }
applied (Flip cvd) n = record { next = n.next; sets = change cvd flipped n.sets }
applied (Drop cvd) n = record { next = n.next; sets = filter (λ d. not (numbered cvd d)) n.sets }
applied (Base next) n = record { next = next; sets = [] }
applied (Whole d) n = record { next = n.next; sets = n.sets ++ d ∷ [] }
applied (Wide cvd vid message columns parents rows fresh place added list segments) n =
    record {
      next = n.next;
      sets = change cvd (λ d. with_version (version_of parents message rows fresh list) place added segments (with_columns columns d)) n.sets;
    }

abbrev pub replayed : {L S : Type 0} → List (Event L S) → Numbers L S → Numbers L S
replayed [] n = n
replayed (e ∷ es) n = replayed es (applied e n)
