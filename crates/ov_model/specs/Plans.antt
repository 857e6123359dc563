-- Plans and their steps, over one dataset.
--     parts_at d p q      the parts of the split of its versions at the threshold p / q
--     planned p q d      the dataset when a plan at p / q has begun
--     missing d plan      the records that the current target lacks
--     copied_more d, flipped d      the dataset after a copy, and after a flip
--     plan_steps d      the steps that its plan has left
use Rattle.std.specs.Prelude.{ℕ, ◌+◌, ◌/◌, Bool, not, ◌&&◌, ◌==◌, nat_lt, nat_le, if◌then◌else◌, List, [], ◌∷◌, ◌++◌, length, map, filter, take, slice_index_or, Option, Some, None}
use Rattle.std.specs.List.{list_all, list_any}
use Rattle.ov_graph.specs.declared.nodes.Node.{Node}
use Rattle.ov_graph.specs.Splits as splits
use Rattle.ov_graph.specs.Versions as graph
use Rattle.ov_model.specs.Book.{Version, Cvd}
use Rattle.ov_model.specs.Lists.{joined}
use Rattle.ov_model.specs.Records.{Rec, recs, records_of, of_version, order_of, is_among, lacking, weights}
use Rattle.ov_model.specs.World.{Part, Target, Plan, Dataset, held, is_one, targets_from}

-- versions with the numbers of their records and the weights of their edges
abbrev pub graph_of : List Version → List (List Rec) → List graph.Version
graph_of [] done = []
graph_of (v ∷ vs) done =
    record { records = length v.rows; parents = weights v.parents (records_of v done) done } ∷ graph_of vs (done ++ records_of v done ∷ [])

-- the reduced tree of its versions
abbrev pub nodes_of_set : Dataset → List Node
nodes_of_set d = graph.reduced (graph_of d.cvd.versions [])

abbrev pub parts_at : Dataset → ℕ → ℕ → List (List ℕ)
parts_at d p q = splits.parts_of (nodes_of_set d) p q

abbrev pub depth_at : Dataset → ℕ → ℕ → ℕ
depth_at d p q = splits.depth_of (nodes_of_set d) p q

-- the records of these versions together, in the order of their rids
abbrev pub records_in : Cvd → List ℕ → List Rec
records_in cvd vids = filter (λ r. list_any (λ vid. is_among (of_version (recs cvd.versions []) vid) r) vids) (order_of cvd.versions)

-- whether two lists of versions have one in common
abbrev pub meets : List ℕ → List ℕ → Bool
meets a b = list_any (is_one b) a

-- A target empties a partition where it is the last target that has a version of it; `later` are the targets behind it.
abbrev pub empties : List ℕ → List (List ℕ) → Part → Bool
empties versions later part = meets versions part.versions && not (list_any (λ other. meets other part.versions) later)

-- the records that have to come and those that have to go, to make these of a partition
abbrev pub modification : List Rec → Part → ℕ
modification wanted part = length (lacking wanted (held part)) + length (lacking (held part) wanted)

-- of two partitions with their costs the cheaper one, ties to the first
abbrev pub cheaper : ℕ × ℕ → Option (ℕ × ℕ) → Option (ℕ × ℕ)
cheaper a None = Some a
cheaper a (Some b) = if nat_le a.1 b.1 then Some a else Some b

-- the cheapest one of those that a target empties, with its cost
abbrev pub cheapest : List Rec → List ℕ → List (List ℕ) → List Part → Option (ℕ × ℕ)
cheapest wanted versions later [] = None
cheapest wanted versions later (part ∷ parts) =
    if empties versions later part
    then cheaper (part.id, modification wanted part) (cheapest wanted versions later parts)
    else cheapest wanted versions later parts

-- it is a source where that costs less than to build anew; 0 for none
abbrev pub source_of : ℕ → Option (ℕ × ℕ) → ℕ
source_of size None = 0
source_of size (Some best) = if nat_lt best.1 size then best.0 else 0

-- the pieces of a partition by its number; none where there is no such partition
abbrev pub pieces_of : List Part → ℕ → List (List Rec)
pieces_of [] id = []
pieces_of (part ∷ parts) id = if part.id == id then part.pieces else pieces_of parts id

-- the places, counted from `at` on, of those pieces that lie within these records
abbrev pub places_within : ℕ → List Rec → List (List Rec) → List ℕ
places_within at wanted [] = []
places_within at wanted (piece ∷ pieces) =
    if list_all (is_among wanted) piece then at ∷ places_within (at + 1) wanted pieces else places_within (at + 1) wanted pieces

-- the pieces at these places
abbrev pub pieces_at : List (List Rec) → List ℕ → List (List Rec)
pieces_at pieces places = map (λ place. slice_index_or pieces place []) places

abbrev pub target_of : Dataset → List ℕ → List (List ℕ) → Target
target_of d versions later =
    let wanted : List Rec = records_in d.cvd versions
    in let source : ℕ = source_of (length wanted) (cheapest wanted versions later d.parts)
    in let kept : List ℕ = places_within 0 wanted (pieces_of d.parts source)
    in record {
      versions = versions;
      source = source;
      kept = kept;
      kept_records = length (joined (pieces_at (pieces_of d.parts source) kept));
    }

abbrev pub targets_of : Dataset → List (List ℕ) → List Target
targets_of d [] = []
targets_of d (versions ∷ later) = target_of d versions later ∷ targets_of d later

-- a plan begins: its targets are the parts of the split over all versions
abbrev pub planned : ℕ → ℕ → Dataset → Dataset
planned p q d = record d {
  threshold = Some (p, q);
  plan = Some (record { p = p; q = q; targets = targets_of d (parts_at d p q); at = 0; copied = [] });
}

abbrev pub kept_pieces : Dataset → Target → List (List Rec)
kept_pieces d t = pieces_at (pieces_of d.parts t.source) t.kept

-- the records of a target that are in no kept piece and not among those that were copied for it
abbrev pub missing_of : Dataset → Target → List (List Rec) → List Rec
missing_of d t copied = lacking (records_in d.cvd t.versions) (joined (kept_pieces d t) ++ joined copied)

abbrev pub no_target : Target
no_target = record { versions = []; source = 0; kept = []; kept_records = 0 }

abbrev pub current : Plan → Target
current plan = slice_index_or plan.targets plan.at no_target

abbrev pub missing : Dataset → Plan → List Rec
missing d plan = missing_of d (current plan) plan.copied

-- the next 256 missing records, or all that are left, as one piece more
abbrev pub copied_for : Dataset → Option Plan → Option Plan
copied_for d None = None
copied_for d (Some plan) = Some (record plan { copied = plan.copied ++ take 256 (missing d plan) ∷ [] })

abbrev pub copied_more : Dataset → Dataset
copied_more d = record d { plan = copied_for d d.plan }

-- without these versions; a partition without versions goes
abbrev pub leaving : List ℕ → Part → Part
leaving versions part = record part { versions = filter (λ vid. not (is_one versions vid)) part.versions }

abbrev pub left_parts : List ℕ → List Part → List Part
left_parts versions parts = filter (λ part. not (length part.versions == 0)) (map (leaving versions) parts)

-- the target as a partition: its pieces are the kept ones and then the copied ones
abbrev pub target_part : Dataset → Plan → Part
target_part d plan = record {
  id = d.next_part;
  versions = (current plan).versions;
  holds = (current plan).versions;
  pieces = kept_pieces d (current plan) ++ plan.copied;
}

-- the next target comes; with the last one the plan ends
abbrev pub next_target : Plan → Option Plan
next_target plan =
    if nat_lt (plan.at + 1) (length plan.targets) then Some (record plan { at = plan.at + 1; copied = [] }) else None

abbrev pub flipped_by : Dataset → Option Plan → Dataset
flipped_by d None = d
flipped_by d (Some plan) = record d {
  parts = left_parts (current plan).versions d.parts ++ target_part d plan ∷ [];
  next_part = d.next_part + 1;
  plan = next_target plan;
}

abbrev pub flipped : Dataset → Dataset
flipped d = flipped_by d d.plan

-- the copies that so many records take, and the flip
abbrev pub steps_for : ℕ → ℕ
steps_for count = (count + 255) / 256 + 1

abbrev pub target_steps : Dataset → List Target → List (List Rec) → ℕ
target_steps d [] copied = 0
target_steps d (t ∷ ts) copied = steps_for (length (missing_of d t copied)) + target_steps d ts []

abbrev pub plan_steps_of : Dataset → Option Plan → ℕ
plan_steps_of d None = 0
plan_steps_of d (Some plan) = target_steps d (targets_from plan.at plan.targets) plan.copied

abbrev pub plan_steps : Dataset → ℕ
plan_steps d = plan_steps_of d d.plan

-- what the partitions will be when the plan is done: of each part its versions and its records
abbrev pub sizes_of : Dataset → List (List ℕ) → List (ℕ × ℕ)
sizes_of d parts = map (λ versions. (length versions, length (records_in d.cvd versions))) parts
