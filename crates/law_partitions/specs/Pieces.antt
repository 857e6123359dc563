-- A partition's pieces are disjoint, and together its records.
--     ArePieces sets      so it is, and what a running plan has to keep so that it stays so
--     RowsRise m w, MayCopy m w      what is asked of a move
use Rattle.std.specs.Prelude.{◌≡◌, ◌≤◌, ◌<◌, ◌⊎◌, ℕ, ◌+◌, true, ◌==◌, if◌then◌else◌, List, [], ◌∷◌, ◌++◌, length, Option, Some, None}
use Rattle.ov_value.specs.Rows.{key_cmp}
use Rattle.ov_value.specs.declared.column.Column.{Column}
use Rattle.ov_model.specs.Book.{Row, Version}
use Rattle.ov_model.specs.Holding.{VersionsAreIn}
use Rattle.ov_model.specs.Lists.{IsIn, Rises, joined}
use Rattle.ov_model.specs.Moves.{Move, Init, Commit, Copy, wide}
use Rattle.ov_model.specs.Placed.{times, id_times}
use Rattle.ov_model.specs.Plans.{pieces_of, meets, kept_pieces, current, missing}
use Rattle.ov_model.specs.Records.{Rec, is_same_row, is_same_rec, recs, of_version}
use Rattle.ov_model.specs.World.{Part, Target, Plan, Dataset, World, held, targets_from}

-- how often a record stands among these
abbrev pub rec_times : List Rec → Rec → ℕ
rec_times [] r = 0
rec_times (x ∷ rs) r = (if is_same_rec r x then 1 else 0) + rec_times rs r

-- none of them stands twice
abbrev pub NoTwice : List Rec → Type 0
NoTwice rs = (r : Rec) → rec_times rs r ≤ 1

-- no piece is empty
abbrev pub AllFull : List (List Rec) → Type 0
AllFull [] = Unit {0}
AllFull (piece ∷ pieces) = (0 < length piece) × AllFull pieces

-- it is a record of one of these versions
abbrev pub IsOfOne : List (List Rec) → List ℕ → Rec → Type 0
IsOfOne done [] r = ⊥
IsOfOne done (vid ∷ vids) r = IsIn (of_version done vid) r ⊎ IsOfOne done vids r

abbrev pub AreOf : List (List Rec) → List ℕ → List Rec → Type 0
AreOf done vids [] = Unit {0}
AreOf done vids (r ∷ rs) = IsOfOne done vids r × AreOf done vids rs

-- The pieces of a partition: they share no record, none is empty, and their records are those of the versions that it keeps,
-- all of them and no other.
pub record IsPieces (done : List (List Rec)) (part : Part) : Type 0 where
  pub once : NoTwice (held part)
  pub full : AllFull part.pieces
  pub all : VersionsAreIn done part.holds (held part)
  pub only : AreOf done part.holds (held part)

abbrev pub PartsArePieces : List (List Rec) → List Part → Type 0
PartsArePieces done [] = Unit {0}
PartsArePieces done (part ∷ parts) = IsPieces done part × PartsArePieces done parts

-- the versions that a partition serves, by its number; none where there is no such partition
abbrev pub versions_of : List Part → ℕ → List ℕ
versions_of [] id = []
versions_of (part ∷ parts) id = if part.id == id then part.versions else versions_of parts id

-- each is below
abbrev pub AreBelow : ℕ → List ℕ → Type 0
AreBelow most [] = Unit {0}
AreBelow most (n ∷ ns) = (n < most) × AreBelow most ns

-- What a target keeps: its source has pieces at these places, and serves one of its versions; the kept pieces share no
-- record, none is empty, and their records are of its versions, as many as it says.
pub record IsKept (d : Dataset) (t : Target) : Type 0 where
  pub there : AreBelow (length (pieces_of d.parts t.source)) t.kept
  pub serves : (t.kept ≡ []) ⊎ (meets t.versions (versions_of d.parts t.source) ≡ true)
  pub once : NoTwice (joined (kept_pieces d t))
  pub full : AllFull (kept_pieces d t)
  pub only : AreOf (recs d.cvd.versions []) t.versions (joined (kept_pieces d t))
  pub count : t.kept_records ≡ length (joined (kept_pieces d t))

abbrev pub AllKept : Dataset → List Target → Type 0
AllKept d [] = Unit {0}
AllKept d (t ∷ ts) = IsKept d t × AllKept d ts

-- how often a version is listed, over targets
abbrev pub target_times : List Target → ℕ → ℕ
target_times [] vid = 0
target_times (t ∷ ts) vid = times t.versions vid + target_times ts vid

-- A running plan: no version is in two of the targets that are left, and each of them keeps what it may; the pieces that were
-- copied for the current one are of its versions, none is empty, and they share no record with each other or with a kept one.
pub record IsUnderWay (d : Dataset) (plan : Plan) : Type 0 where
  pub apart : (vid : ℕ) → target_times (targets_from plan.at plan.targets) vid ≤ 1
  pub kept : AllKept d (targets_from plan.at plan.targets)
  pub once : NoTwice (joined (kept_pieces d (current plan)) ++ joined plan.copied)
  pub full : AllFull plan.copied
  pub only : AreOf (recs d.cvd.versions []) (current plan).versions (joined plan.copied)

abbrev pub PlanIsUnderWay : Dataset → Option Plan → Type 0
PlanIsUnderWay d None = Unit {0}
PlanIsUnderWay d (Some plan) = IsUnderWay d plan

-- how often a row stands among these
abbrev pub row_times : List Row → Row → ℕ
row_times [] row = 0
row_times (x ∷ rows) row = (if is_same_row row x then 1 else 0) + row_times rows row

-- no version has a row twice
abbrev pub HaveNoRowTwice : List Version → Type 0
HaveNoRowTwice [] = Unit {0}
HaveNoRowTwice (v ∷ versions) = ((row : Row) → row_times v.rows row ≤ 1) × HaveNoRowTwice versions

-- numbers of partitions begin at 1
pub record HasPieces (d : Dataset) : Type 0 where
  pub parts : PartsArePieces (recs d.cvd.versions []) d.parts
  pub plan : PlanIsUnderWay d d.plan
  pub rows : HaveNoRowTwice d.cvd.versions
  pub no_zero : id_times d.parts 0 ≡ 0
  pub next : 1 ≤ d.next_part

abbrev pub ArePieces : List Dataset → Type 0
ArePieces [] = Unit {0}
ArePieces (d ∷ sets) = HasPieces d × ArePieces sets

-- the rows of a new version rise by their keys, none twice, in the schema that it comes with
abbrev pub AllRiseWith : ℕ → List Column → List Row → List Dataset → Type 0
AllRiseWith cvd added rows [] = Unit {0}
AllRiseWith cvd added rows (d ∷ sets) = (d.cvd.number ≡ cvd → Rises (key_cmp (wide added d).cvd.schema) rows) × AllRiseWith cvd added rows sets

abbrev pub RowsRise : Move → World → Type 0
RowsRise (Init name schema rows) w = Rises (key_cmp schema) rows
RowsRise (Commit cvd parents message added rows) w = AllRiseWith cvd added rows w.sets
RowsRise _ w = Unit {0}

-- a copy finds a record missing
abbrev pub LacksSome : Dataset → Option Plan → Type 0
LacksSome d None = Unit {0}
LacksSome d (Some plan) = 0 < length (missing d plan)

abbrev pub AllLackSome : ℕ → List Dataset → Type 0
AllLackSome cvd [] = Unit {0}
AllLackSome cvd (d ∷ sets) = (d.cvd.number ≡ cvd → LacksSome d d.plan) × AllLackSome cvd sets

abbrev pub MayCopy : Move → World → Type 0
MayCopy (Copy cvd) w = AllLackSome cvd w.sets
MayCopy _ w = Unit {0}
