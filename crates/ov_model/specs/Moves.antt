-- The moves of a World.
--     moved m w      the World after the move
--     placed_at d v      where a commit's version goes: by the numbers of the dataset before it
--     Fits m w      what is asked of a move
use Rattle.std.specs.Prelude.{ℕ, ◌+◌, Bool, not, ◌==◌, if◌then◌else◌, List, [], ◌∷◌, ◌++◌, length, map, filter, Option, Some, None, Result, Ok, Err, codes}
use Rattle.ov_graph.specs.Versions.{heaviest}
use Rattle.ov_place.specs.Placement.{placed}
use Rattle.ov_place.specs.declared.place_facts.Place.{Place}
use Rattle.ov_place.specs.declared.place_facts.Place.TheVariants.{Own, Join}
use Rattle.ov_place.specs.declared.place_facts.PlaceFacts.{PlaceFacts}
use Rattle.ov_value.specs.declared.column.Column.{Column}
use Rattle.ov_value.specs.declared.schema_err.SchemaErr.{SchemaErr}
use Rattle.ov_value.specs.Making.{widened}
use Rattle.ov_value.specs.Shapes.{Shape}
use Rattle.ov_model.specs.Book.{Row, Version, Cvd, extended}
use Rattle.ov_model.specs.Plans.{planned, copied_more, flipped}
use Rattle.ov_model.specs.Records.{Rec, recs, records_of, ordered_records, weights, lacking, order_of}
use Rattle.ov_model.specs.World.{Part, Plan, Dataset, World, held, stored, part_of, is_unmoved}

pub data Move : Type 0 where
  -- a dataset with these rows as its version 1
  Init : (name : List ℕ) (schema : Shape) (rows : List Row) → Move
  -- a version more of the dataset of this number, with columns added at the right, and its rows
  Commit : (cvd : ℕ) (parents : List ℕ) (message : List ℕ) (added : List Column) (rows : List Row) → Move
  -- a plan of the dataset of this number begins, at the threshold p / q
  BeginPlan : (cvd : ℕ) (p : ℕ) (q : ℕ) → Move
  -- its plan's target takes the next missing records
  Copy : (cvd : ℕ) → Move
  -- its plan's target becomes a partition
  Flip : (cvd : ℕ) → Move
  -- the dataset of this number goes
  Drop : (cvd : ℕ) → Move
  -- the store's state becomes the journal's first records
  Checkpoint : Move

-- a piece of these records; none where there are none
abbrev pub piece_of : List Rec → List (List Rec)
piece_of [] = []
piece_of (r ∷ rs) = (r ∷ rs) ∷ []

-- the parent that the reduced tree keeps: that of the greatest weight, ties to the one listed first; and that weight
abbrev pub tree_edge_of : Dataset → Version → ℕ × ℕ
tree_edge_of d v = heaviest (weights v.parents (records_of v (recs d.cvd.versions [])) (recs d.cvd.versions []))

-- what decides on a version's place: the dataset's threshold, records and stored records as they were before it, the weight
-- of its edge from its tree parent, and that parent's partition
abbrev pub facts_of : Dataset → ℕ × ℕ → PlaceFacts
facts_of d edge = record {
  threshold = d.threshold;
  unmoved = is_unmoved d.plan edge.0;
  weight = edge.1;
  records = length (order_of d.cvd.versions);
  stored = stored d;
  parent = part_of d.parts edge.0;
}

abbrev pub placed_at : Dataset → Version → Place
placed_at d v = placed (facts_of d (tree_edge_of d v))

-- a partition that takes a version more, with those of its records that it lacked as one piece
abbrev pub with_joined : ℕ → List Rec → Part → Part
with_joined vid rs part = record part {
  versions = part.versions ++ vid ∷ [];
  holds = part.holds ++ vid ∷ [];
  pieces = part.pieces ++ piece_of (lacking rs (held part));
}

abbrev pub own_part : ℕ → ℕ → List Rec → Part
own_part id vid rs = record { id = id; versions = vid ∷ []; holds = vid ∷ []; pieces = piece_of rs }

abbrev pub parts_with : Place → ℕ → ℕ → List Rec → List Part → List Part
parts_with Own next vid rs parts = parts ++ own_part next vid rs ∷ []
parts_with (Join id) next vid rs parts = map (λ part. if part.id == id then with_joined vid rs part else part) parts

abbrev pub next_with : Place → ℕ → ℕ
next_with Own next = next + 1
next_with (Join id) next = next

-- a row, record, version, partition or plan with so many columns more at the right, all NULL
abbrev pub wide_rec : ℕ → Rec → Rec
wide_rec count r = record r { row = extended count r.row }

abbrev pub wide_version : ℕ → Version → Version
wide_version count v = record v { rows = map (extended count) v.rows }

abbrev pub wide_part : ℕ → Part → Part
wide_part count part = record part { pieces = map (map (wide_rec count)) part.pieces }

abbrev pub wide_plan : ℕ → Option Plan → Option Plan
wide_plan count None = None
wide_plan count (Some plan) = Some (record plan { copied = map (map (wide_rec count)) plan.copied })

-- the schema with the added columns; as it is where they are refused
abbrev pub accepted_or : Shape → Result Shape SchemaErr → Shape
accepted_or schema (Ok wide) = wide
accepted_or schema (Err refusal) = schema

abbrev pub wide_schema : Shape → List Column → Shape
wide_schema schema added = accepted_or schema (widened schema added)

abbrev pub wide_cvd : List Column → Cvd → Cvd
wide_cvd added cvd = record cvd {
  schema = wide_schema cvd.schema added;
  versions = map (wide_version (length added)) cvd.versions;
}

-- the dataset with the added columns; none is no change
abbrev pub wide : List Column → Dataset → Dataset
wide [] d = d
wide (column ∷ added) d = record d {
  cvd = wide_cvd (column ∷ added) d.cvd;
  parts = map (wide_part (length (column ∷ added))) d.parts;
  plan = wide_plan (length (column ∷ added)) d.plan;
}

-- the dataset with one version more, whose records come to its partition in the order of their rids
abbrev pub with_version : Version → Dataset → Dataset
with_version v d = record d {
  cvd = record d.cvd { versions = d.cvd.versions ++ v ∷ [] };
  parts = parts_with (placed_at d v) d.next_part (length d.cvd.versions + 1) (ordered_records d.cvd.versions v) d.parts;
  next_part = next_with (placed_at d v) d.next_part;
}

abbrev pub version_of : List ℕ → List ℕ → List Row → Version
version_of parents message rows = record { parents = parents; message = message; rows = rows }

abbrev pub committed : List ℕ → List ℕ → List Column → List Row → Dataset → Dataset
committed parents message added rows d = with_version (version_of parents message rows) (wide added d)

-- a dataset as an Init makes it; its records, all new, have their rids in the order of their keys
abbrev pub new_set : ℕ → List ℕ → Shape → List Row → Dataset
new_set number name schema rows = record {
  cvd = record { number = number; name = name; schema = schema; versions = version_of [] (codes "init") rows ∷ [] };
  parts = own_part 1 1 (records_of (version_of [] (codes "init") rows) []) ∷ [];
  next_part = 2;
  threshold = None;
  plan = None;
}

abbrev pub numbered : ℕ → Dataset → Bool
numbered number d = d.cvd.number == number

-- a change of the dataset of this number
abbrev pub change : ℕ → (Dataset → Dataset) → List Dataset → List Dataset
change number f sets = map (λ d. if numbered number d then f d else d) sets

-- a change of one dataset, which is one record of the journal
abbrev pub changed : ℕ → (Dataset → Dataset) → World → World
changed cvd f w = record w { sets = change cvd f w.sets; records = w.records + 1 }

-- Each move but a checkpoint is one record of the journal more. A checkpoint begins an epoch, whose records are one for the
-- numbers and one for each dataset.
abbrev pub moved : Move → World → World
moved (Init name schema rows) w = record w {
  sets = w.sets ++ new_set w.next name schema rows ∷ [];
  next = w.next + 1;
  records = w.records + 1;
}
moved (Commit cvd parents message added rows) w = changed cvd (committed parents message added rows) w
moved (BeginPlan cvd p q) w = changed cvd (planned p q) w
moved (Copy cvd) w = changed cvd copied_more w
moved (Flip cvd) w = changed cvd flipped w
moved (Drop cvd) w = record w { sets = filter (λ d. not (numbered cvd d)) w.sets; records = w.records + 1 }
moved Checkpoint w = record w { epoch = w.epoch + 1; records = length w.sets + 1; format = 2 }
