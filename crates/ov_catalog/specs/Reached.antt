-- Which moves fit a World, and which Worlds moves reach.
--     Fits m w      what a command asks before it makes the move
--     Past, passed      what brought a store to where it is: a move, or a checkpoint that left format 1 as it was
--     Reached w      such moves lead from the empty World of one of the formats to it; a plan of a dataset may run there
use Rattle.std.specs.Prelude.{◌≡◌, ◌≢◌, ◌⊎◌, ◌<◌, ◌≤◌, ◌+◌, ◌^◌, ◌-◌, ℕ, IsTrue, IsUtf8, is_ok, List, [], ◌∷◌, ◌++◌, length, Option, Some, None}
use Rattle.std.specs.List.{All}
use Rattle.ov_value.specs.declared.column.Column.{Column}
use Rattle.ov_value.specs.Making.{widened}
use Rattle.ov_value.specs.Naming.{is_name}
use Rattle.ov_value.specs.Rows.{key_cmp}
use Rattle.ov_value.specs.Shapes.{Shape, IsSound}
use Rattle.ov_value.specs.Spelling.{IsRow, row_spelling}
use Rattle.ov_model.specs.Act.{null_row}
use Rattle.ov_model.specs.Book.{Row, Version}
use Rattle.ov_model.specs.Lists.{Rises}
use Rattle.ov_model.specs.Moves.{Move, Init, Commit, BeginPlan, Copy, Flip, Drop, Checkpoint, moved, numbered, version_of, wide}
use Rattle.ov_model.specs.Placed.{AreThere, times}
use Rattle.ov_model.specs.Plans.{missing}
use Rattle.ov_model.specs.Records.{order_of}
use Rattle.ov_model.specs.World.{Plan, Dataset, World, first_set, set_named, empty_world_of}

-- the rows of a version: in key order with no key twice, not too many, and each a row of the schema of at most 65,536 bytes
pub record AreRows (schema : Shape) (rows : List Row) : Type 0 where
  pub rise : Rises (key_cmp schema) rows
  pub few : length rows ≤ 1000000
  pub fit : All (IsRow schema) rows
  pub short : All (λ row. length (row_spelling row).bytes ≤ 65536) rows

-- in a store of format 1 no row has NULL
abbrev pub ArePlain : World → List Row → Type 0
ArePlain w rows = w.format ≡ 1 → null_row 1 rows ≡ None

pub record InitFits (w : World) (name : List ℕ) (schema : Shape) (rows : List Row) : Type 0 where
  pub numbers : w.next < 4294967295
  pub named : IsTrue (is_name name)
  pub new : set_named w name ≡ None
  pub few : length w.sets < 1024
  pub sound : IsSound schema
  pub sorted : AreRows schema rows
  pub plain : ArePlain w rows

-- versions, each of them there, and none twice
pub record AreParents (count : ℕ) (parents : List ℕ) : Type 0 where
  pub some : parents ≢ []
  pub there : AreThere count parents
  pub once : (vid : ℕ) → times parents vid ≤ 1

-- of a commit to this dataset, as the added columns leave it
pub record CommitFits (w : World) (d : Dataset) (v : Version) : Type 0 where
  pub parents : AreParents (length d.cvd.versions) v.parents
  pub text : IsUtf8 v.message
  pub short : length v.message ≤ 1024
  pub few : length d.cvd.versions < 65535
  pub rows : AreRows d.cvd.schema v.rows
  pub records : length (order_of (d.cvd.versions ++ v ∷ [])) ≤ 2 ^ 31
  pub plain : ArePlain w v.rows

-- columns may be added to this dataset: the store isn't one of format 1, and the schema takes them
pub record TakesColumns (w : World) (d : Dataset) (added : List Column) : Type 0 where
  pub format : w.format ≢ 1
  pub accepted : IsTrue (is_ok (widened d.cvd.schema added))

-- a plan may begin: none runs, the threshold is in range, and numbers for partitions are left
pub record PlanFits (p q : ℕ) (d : Dataset) : Type 0 where
  pub idle : d.plan ≡ None
  pub some : 1 ≤ p
  pub at_most : p ≤ q
  pub few : q ≤ 1000000
  pub numbers : d.next_part ≤ 4294000000

abbrev pub IfThere : (Dataset → Type 0) → Option Dataset → Type 0
IfThere P None = ⊥
IfThere P (Some d) = P d

abbrev pub IfRunning : (Plan → Type 0) → Option Plan → Type 0
IfRunning P None = ⊥
IfRunning P (Some plan) = P plan

-- a plan runs, and its current target misses records, or none
abbrev pub MissesSome : Dataset → Type 0
MissesSome d = IfRunning (λ plan. 0 < length (missing d plan)) d.plan

abbrev pub MissesNone : Dataset → Type 0
MissesNone d = IfRunning (λ plan. missing d plan ≡ []) d.plan

abbrev pub Fits : Move → World → Type 0
Fits (Init name schema rows) w = InitFits w name schema rows
Fits (Commit cvd parents message [] rows) w = IfThere (λ d. CommitFits w d (version_of parents message rows)) (first_set (numbered cvd) w.sets)
Fits (Commit cvd parents message (column ∷ added) rows) w =
    IfThere (λ d. TakesColumns w d (column ∷ added) × CommitFits w (wide (column ∷ added) d) (version_of parents message rows))
    (first_set (numbered cvd) w.sets)
Fits (BeginPlan cvd p q) w = IfThere (PlanFits p q) (first_set (numbered cvd) w.sets)
Fits (Copy cvd) w = IfThere MissesSome (first_set (numbered cvd) w.sets)
Fits (Flip cvd) w = IfThere MissesNone (first_set (numbered cvd) w.sets)
Fits (Drop cvd) w = IfThere (λ d. Unit {0}) (first_set (numbered cvd) w.sets)
Fits Checkpoint w = w.epoch < 2 ^ 32 - 1

-- What happened to a store: a move of this program; or a checkpoint of one that knew no other format than 1, which left the store's
-- format number.
pub data Past : Type 0 where
  ByMove : (move : Move) → Past
  OldCheckpoint : Past

abbrev pub old_checkpoint : World → World
old_checkpoint w = record w { epoch = w.epoch + 1; records = length w.sets + 1 }

abbrev pub passed : Past → World → World
passed (ByMove m) w = moved m w
passed OldCheckpoint w = old_checkpoint w

abbrev pub MayPass : Past → World → Type 0
MayPass (ByMove m) w = Fits m w
MayPass OldCheckpoint w = (w.format ≡ 1) × (w.epoch < 2 ^ 32 - 1)

-- from the World v, by what may happen, one after another
abbrev pub Leads : World → List Past → World → Type 0
Leads v [] w = v ≡ w
Leads v (p ∷ ps) w = MayPass p v × Leads (passed p v) ps w

-- a known format number
abbrev pub IsFormat : ℕ → Type 0
IsFormat format = (format ≡ 1) ⊎ (format ≡ 2)

abbrev pub Reached : World → Type 0
Reached w = (format : ℕ) × IsFormat format × (ps : List Past) × Leads (empty_world_of format) ps w
