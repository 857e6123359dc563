-- The targets of a plan, by rids.
--     IsWanted lists vids wanted      the rids of these versions together
--     emptied_by versions later partitions      the partitions that a target empties
--     IsTarget lists partitions versions later t      what the plan's event says of one target
--     AreTargets lists partitions parts ts      what it says of all
use Rattle.std.specs.Prelude.{◌≡◌, ◌≤◌, ◌<◌, ℕ, ◌-◌, Bool, not, ◌&&◌, ◌==◌, if◌then◌else◌, List, [], ◌∷◌, length, map, filter, slice_index_or, Vec}
use Rattle.std.specs.List.{list_any}
use Rattle.std.specs.declared.alloc.Global.{Global}
use Rattle.ov_event.specs.declared.event.PlanTarget.{PlanTarget}
use Rattle.ov_match.specs.declared.choosing.Candidate.{Candidate}
use Rattle.ov_match.specs.Matching.{cheapest, kept_of, places_within}
use Rattle.ov_member.specs.Rids.{AreRids, has}
use Rattle.ov_model.specs.Lists.{joined}
use Rattle.ov_model.specs.Plans.{meets, source_of}
use Rattle.ov_targets.specs.declared.candidates.Partition.{Partition}

-- each of these numbers is below a limit
abbrev pub AreBelow : ℕ → List ℕ → Type 0
AreBelow limit [] = Unit {0}
AreBelow limit (n ∷ ns) = (n < limit) × AreBelow limit ns

-- these are versions, of so many
abbrev pub AreVids : ℕ → List ℕ → Type 0
AreVids count [] = Unit {0}
AreVids count (vid ∷ vids) = ((1 ≤ vid) × (vid ≤ count)) × AreVids count vids

-- the rids of a version by its number
abbrev pub list_at : List (List ℕ) → ℕ → List ℕ
list_at lists vid = slice_index_or lists (vid - 1) []

-- the rids of these versions together, ascending, none twice
pub record IsWanted (lists : List (List ℕ)) (vids wanted : List ℕ) : Type 0 where
  pub rids : AreRids wanted
  pub together : (rid : ℕ) → has wanted rid ≡ list_any (λ vid. has (list_at lists vid) rid) vids

-- it has a version of the partition, and no later target has
abbrev pub empties : List ℕ → List (List ℕ) → Partition → Bool
empties versions later partition =
    meets versions partition.versions.items && not (list_any (λ other. meets other partition.versions.items) later)

abbrev pub candidate_in : Partition → Candidate
candidate_in partition = record { part = partition.id; segments = partition.segments }

abbrev pub emptied_by : List ℕ → List (List ℕ) → List Partition → List Candidate
emptied_by versions later partitions = map candidate_in (filter (empties versions later) partitions)

-- the segments of the partition of this number; none where there is no such partition
abbrev pub segments_of : List Candidate → ℕ → List (List ℕ)
segments_of [] id = []
segments_of (candidate ∷ candidates) id = if candidate.part == id then candidate.segments.items else segments_of candidates id

-- What is said of the target that wants these rids. Its source is the cheapest of the partitions that it empties, where that one
-- costs less than to build anew, and else 0; of the source's segments it keeps those within what it wants.
pub record IsSaid (wanted : List ℕ) (emptied all : List Candidate) (t : PlanTarget) : Type 0 where
  pub size : t.size ≡ length wanted
  pub source : t.source ≡ source_of (length wanted) (cheapest wanted emptied)
  pub kept : t.kept ≡ places_within 0 wanted (segments_of all t.source)
  pub kept_records : t.kept_records ≡ length (joined (kept_of wanted (segments_of all t.source)))

pub record IsTarget (lists : List (List ℕ)) (partitions : List Partition) (versions : List ℕ) (later : List (List ℕ)) (t : PlanTarget) : Type 0 where
  pub wanted : List ℕ
  pub together : IsWanted lists versions wanted
  pub said : IsSaid wanted (emptied_by versions later partitions) (map candidate_in partitions) t

-- one for each part, in order
abbrev pub AreTargets : List (List ℕ) → List Partition → List (List ℕ) → List PlanTarget → Type 0
AreTargets lists partitions [] [] = Unit {0}
AreTargets lists partitions [] (t ∷ ts) = ⊥
AreTargets lists partitions (versions ∷ later) [] = ⊥
AreTargets lists partitions (versions ∷ later) (t ∷ ts) = IsTarget lists partitions versions later t × AreTargets lists partitions later ts

abbrev pub versions_in : Vec ℕ Global → List ℕ
versions_in part = part.items
