-- How it is found which target empties a partition.
use Rattle.std.specs.Prelude.{◌≡◌, ◌<◌, ℕ, suc, nat_lt, ◌==◌, if◌then◌else◌, true, List, [], ◌∷◌, length, map, filter, slice_index_or, Vec}
use Rattle.std.specs.declared.alloc.Global.{Global}
use Rattle.ov_event.specs.declared.event.PlanTarget.{PlanTarget}
use Rattle.ov_match.specs.declared.choosing.Candidate.{Candidate}
use Rattle.ov_match.specs.Matching.{NumbersAscend}
use Rattle.ov_model.specs.Lists.{IsIn}
use Rattle.ov_model.specs.World.{is_one}
use Rattle.ov_targets.specs.declared.candidates.Partition.{Partition}
use Rattle.ov_targets.specs.Targets.{IsWanted, IsSaid, candidate_in}

-- the place that a version has; 0 for none
abbrev pub place_in : List ℕ → ℕ → ℕ
place_in lasts vid = slice_index_or lasts vid 0

-- these versions have got the place, and the others have theirs still
abbrev pub AreMarked : List ℕ → ℕ → List ℕ → List ℕ → Type 0
AreMarked versions place old new = (vid : ℕ) → place_in new vid ≡ (if is_one versions vid then place else place_in old vid)

-- of each version the place of the last part that has it, counted from 1; 0 where none has it
pub record AreLasts (parts : List (List ℕ)) (place : ℕ → ℕ) : Type 0 where
  pub last : (at vid : ℕ) → at < length parts → is_one (slice_index_or parts at []) vid ≡ true → at < place vid
  pub there : (at vid : ℕ) → place vid ≡ suc at → (at < length parts) × (is_one (slice_index_or parts at []) vid ≡ true)

abbrev pub greater : ℕ → ℕ → ℕ
greater a b = if nat_lt b a then a else b

-- the greatest place of these versions; 0 for none
abbrev pub greatest : (ℕ → ℕ) → List ℕ → ℕ
greatest place [] = 0
greatest place (vid ∷ vids) = greater (place vid) (greatest place vids)

-- those partitions whose greatest place is this one, counted from 0
abbrev pub emptied_at : (ℕ → ℕ) → ℕ → List Partition → List Candidate
emptied_at place at partitions = map candidate_in (filter (λ partition. greatest place partition.versions.items == suc at) partitions)

abbrev pub candidates_in : Vec Candidate Global → List Candidate
candidates_in emptied = emptied.items

-- What is said of the target of these versions, which empties these partitions, among all that have them.
pub record IsBegun (lists : List (List ℕ)) (versions : List ℕ) (emptied : List Candidate) (t : PlanTarget) : Type 0 where
  pub wanted : List ℕ
  pub together : IsWanted lists versions wanted
  pub said : (all : List Candidate) → NumbersAscend 0 all → ((one : Candidate) → IsIn emptied one → IsIn all one) → IsSaid wanted emptied all t
