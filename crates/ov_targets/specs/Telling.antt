-- The lists and partitions of a dataset, by rids, and what the event of a plan says of its targets.
--     AreOfSet d lists partitions      they have the rids of its versions, and of the pieces of its partitions
--     targets_said d parts      what the event of a plan with these parts says
use Rattle.std.specs.Prelude.{◌≡◌, ℕ, List, [], ◌∷◌, map}
use Rattle.ov_event.specs.declared.event.PlanTarget.{PlanTarget}
use Rattle.ov_catalog.specs.Shown.{list_of, said_of, shown_target}
use Rattle.ov_match.specs.Matching.{AreApart}
use Rattle.ov_model.specs.Plans.{targets_of}
use Rattle.ov_model.specs.Records.{Rec, recs, order_of}
use Rattle.ov_model.specs.World.{Part, Dataset}
use Rattle.ov_targets.specs.declared.candidates.Partition.{Partition}
use Rattle.ov_targets.specs.Targets.{AreTargets}

-- `all` are the records of the dataset, in the order of their rids
pub record IsPart (all : List Rec) (part : Part) (partition : Partition) : Type 0 where
  pub id : partition.id ≡ part.id
  pub versions : partition.versions.items ≡ part.versions
  pub segments : partition.segments.items ≡ map (list_of all) part.pieces

abbrev pub AreParts : List Rec → List Part → List Partition → Type 0
AreParts all [] [] = Unit {0}
AreParts all [] (partition ∷ partitions) = ⊥
AreParts all (part ∷ parts) [] = ⊥
AreParts all (part ∷ parts) (partition ∷ partitions) = IsPart all part partition × AreParts all parts partitions

pub record AreOfSet (d : Dataset) (lists : List (List ℕ)) (partitions : List Partition) : Type 0 where
  pub versions : lists ≡ map (list_of (order_of d.cvd.versions)) (recs d.cvd.versions [])
  pub parts : AreParts (order_of d.cvd.versions) d.parts partitions

abbrev pub targets_said : Dataset → List (List ℕ) → List PlanTarget
targets_said d parts = map (λ t. said_of (shown_target d t)) (targets_of d parts)

-- no rid is in two segments of one partition, nor twice in one
abbrev pub AllApart : List Partition → Type 0
AllApart [] = Unit {0}
AllApart (partition ∷ partitions) = AreApart partition.segments.items × AllApart partitions

abbrev pub HasApart : Dataset → Type 0
HasApart d = (lists : List (List ℕ)) (partitions : List Partition) → AreOfSet d lists partitions → AllApart partitions

-- what is said by rids is said by the plan's event
abbrev pub Agree : Dataset → Type 0
Agree d = (lists : List (List ℕ)) (partitions : List Partition) (parts : List (List ℕ)) (ts : List PlanTarget)
    → AreOfSet d lists partitions → AreTargets lists partitions parts ts → ts ≡ targets_said d parts
