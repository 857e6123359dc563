-- A World: the datasets with their partitions, thresholds and plans, and the numbers of the store.
--     book w      its datasets alone
--     stored set, cost set      the records kept over a dataset's partitions; what a checkout reads, summed over its versions
use Rattle.std.specs.Prelude.{◌<◌, ◌≤◌, ℕ, ◌+◌, ◌*◌, ◌-◌, Bool, false, ◌==◌, if◌then◌else◌, List, [], ◌∷◌, length, map, Option, Some, None}
use Rattle.std.specs.List.{list_any, sum}
use Rattle.std.specs.Str.{bytes_eq}
use Rattle.ov_model.specs.Book.{Book, Version, Cvd}
use Rattle.ov_model.specs.Lists.{joined}
use Rattle.ov_model.specs.Records.{Rec}

-- A partition: its number, the versions that it serves, the versions whose records it keeps, both ascending, and its pieces,
-- which share no record.
pub record Part : Type 0 where
  pub id : ℕ
  pub versions : List ℕ
  pub holds : List ℕ
  pub pieces : List (List Rec)

-- A partition that a plan will make: its versions, the partition whose pieces it keeps, 0 for none, the places of those
-- pieces, counted from 0, and how many records these have. It stays as the plan began, also where its source is gone.
pub record Target : Type 0 where
  pub versions : List ℕ
  pub source : ℕ
  pub kept : List ℕ
  pub kept_records : ℕ

-- A running plan: its threshold p / q, its targets, which of them is the current one, counted from 0, and the pieces that
-- were copied for it.
pub record Plan : Type 0 where
  pub p : ℕ
  pub q : ℕ
  pub targets : List Target
  pub at : ℕ
  pub copied : List (List Rec)

-- A dataset with its partitions by number, the next partition's number, the threshold of the last plan, and the running plan.
pub record Dataset : Type 0 where
  pub cvd : Cvd
  pub parts : List Part
  pub next_part : ℕ
  pub threshold : Option (ℕ × ℕ)
  pub plan : Option Plan

-- The live datasets in order of creation, the number that the next one gets, and the epoch, the number of records and the
-- format number of the journal.
pub record World : Type 0 where
  pub sets : List Dataset
  pub next : ℕ
  pub epoch : ℕ
  pub records : ℕ
  pub format : ℕ

-- of a store of this format number
abbrev pub empty_world_of : ℕ → World
empty_world_of format = record { sets = []; next = 1; epoch = 1; records = 0; format = format }

-- that of a new store
abbrev pub empty_world : World
empty_world = empty_world_of 2

abbrev pub book : World → Book
book w = map (λ d. d.cvd) w.sets

-- the first dataset that passes a test
abbrev pub first_set : (Dataset → Bool) → List Dataset → Option Dataset
first_set test [] = None
first_set test (d ∷ ds) = if test d then Some d else first_set test ds

abbrev pub named : List ℕ → Dataset → Bool
named name d = bytes_eq d.cvd.name name

abbrev pub set_named : World → List ℕ → Option Dataset
set_named w name = first_set (named name) w.sets

-- the dataset alone, without its partitions
abbrev pub cvd_in : Option Dataset → Option Cvd
cvd_in None = None
cvd_in (Some d) = Some d.cvd

-- all its pieces together
abbrev pub held : Part → List Rec
held part = joined part.pieces

-- the records copied so far for the current target of a plan
abbrev pub copied_records : Option Plan → ℕ
copied_records None = 0
copied_records (Some plan) = length (joined plan.copied)

abbrev pub stored : Dataset → ℕ
stored d = sum (map (λ part. length (held part)) d.parts) + copied_records d.plan

abbrev pub cost : Dataset → ℕ
cost d = sum (map (λ part. length part.versions * length (held part)) d.parts)

-- whether it is one of these
abbrev pub is_one : List ℕ → ℕ → Bool
is_one ns n = list_any (λ m. m == n) ns

-- the number of the partition that serves a version; 0 where none does
abbrev pub part_of : List Part → ℕ → ℕ
part_of [] vid = 0
part_of (part ∷ parts) vid = if is_one part.versions vid then part.id else part_of parts vid

-- the targets that weren't flipped yet
abbrev pub targets_from : ℕ → List Target → List Target
targets_from at [] = []
targets_from at (t ∷ ts) = if at == 0 then t ∷ ts else targets_from (at - 1) ts

-- whether a version is in a target that wasn't flipped yet while a plan runs
abbrev pub is_unmoved : Option Plan → ℕ → Bool
is_unmoved None vid = false
is_unmoved (Some plan) vid = list_any (λ t. is_one t.versions vid) (targets_from plan.at plan.targets)

-- each dataset has a version
abbrev pub AllBegun : List Dataset → Type 0
AllBegun [] = Unit {0}
AllBegun (d ∷ sets) = (0 < length d.cvd.versions) × AllBegun sets

-- each version has one parent or none
abbrev pub HasOneParentAtMost : List Version → Type 0
HasOneParentAtMost [] = Unit {0}
HasOneParentAtMost (v ∷ versions) = (length v.parents ≤ 1) × HasOneParentAtMost versions
