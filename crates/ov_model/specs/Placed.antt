-- Each version of a dataset is in exactly one partition.
--     IsPlaced d      so it is, and what a plan has to keep so that it stays so
use Rattle.std.specs.Prelude.{◌≡◌, ◌≢◌, ◌≤◌, ◌<◌, ℕ, ◌+◌, ◌==◌, if◌then◌else◌, List, [], ◌∷◌, length, Option, Some, None}
use Rattle.ov_model.specs.Moves.{Move, Commit}
use Rattle.ov_model.specs.World.{Part, Target, Plan, Dataset, World}

-- how often a version is listed
abbrev pub times : List ℕ → ℕ → ℕ
times [] vid = 0
times (v ∷ vs) vid = (if v == vid then 1 else 0) + times vs vid

-- how often it is, over partitions
abbrev pub part_times : List Part → ℕ → ℕ
part_times [] vid = 0
part_times (part ∷ parts) vid = times part.versions vid + part_times parts vid

-- how many partitions have a number
abbrev pub id_times : List Part → ℕ → ℕ
id_times [] id = 0
id_times (part ∷ parts) id = (if part.id == id then 1 else 0) + id_times parts id

-- a list of versions from 1 to count, none of them twice
pub record AreVersions (count : ℕ) (versions : List ℕ) : Type 0 where
  pub once : (vid : ℕ) → times versions vid ≤ 1
  pub from_one : (vid : ℕ) → 1 ≤ times versions vid → 1 ≤ vid
  pub there : (vid : ℕ) → 1 ≤ times versions vid → vid ≤ count

abbrev pub TargetsAre : ℕ → List Target → Type 0
TargetsAre count [] = Unit {0}
TargetsAre count (t ∷ ts) = AreVersions count t.versions × TargetsAre count ts

abbrev pub PlanIs : ℕ → Option Plan → Type 0
PlanIs count None = Unit {0}
PlanIs count (Some plan) = TargetsAre count plan.targets

pub record IsPlaced (d : Dataset) : Type 0 where
  pub each : (vid : ℕ) → 1 ≤ vid → vid ≤ length d.cvd.versions → part_times d.parts vid ≡ 1
  pub no_other : (vid : ℕ) → length d.cvd.versions < vid → part_times d.parts vid ≡ 0
  pub ids_once : (id : ℕ) → id_times d.parts id ≤ 1
  pub ids_below : (id : ℕ) → d.next_part ≤ id → id_times d.parts id ≡ 0
  pub targets : PlanIs (length d.cvd.versions) d.plan

abbrev pub ArePlaced : List Dataset → Type 0
ArePlaced [] = Unit {0}
ArePlaced (d ∷ sets) = IsPlaced d × ArePlaced sets

-- versions that are there
abbrev pub AreThere : ℕ → List ℕ → Type 0
AreThere count [] = Unit {0}
AreThere count (p ∷ ps) = ((1 ≤ p) × (p ≤ count)) × AreThere count ps

-- a commit names parents, and they are there
abbrev pub HasParents : List ℕ → Dataset → Type 0
HasParents parents d = (parents ≢ []) × AreThere (length d.cvd.versions) parents

abbrev pub AllHaveParents : ℕ → List ℕ → List Dataset → Type 0
AllHaveParents cvd parents [] = Unit {0}
AllHaveParents cvd parents (d ∷ sets) = (d.cvd.number ≡ cvd → HasParents parents d) × AllHaveParents cvd parents sets

abbrev pub NamesParents : Move → World → Type 0
NamesParents (Commit cvd parents message added rows) w = AllHaveParents cvd parents w.sets
NamesParents _ w = Unit {0}
