-- What a flip's target keeps is of one partition, which goes with the flip. So what the flip gives up and what stays then are what
-- was there: nothing is lost, and nothing that stays is given up.
--     KeepsOfOne t parts      a target's kept segments are of one of these partitions, which goes with it
--     FlipFits cvd sets      so it is of the current target of the dataset with this number
--     IsApart e n      so it is where the event is a flip
use Rattle.std.specs.Prelude.{◌≡◌, ◌≢◌, ◌⊎◌, ℕ, true, List, [], ◌∷◌, length, Option, Some, None}
use Rattle.ov_host.specs.declared.area.Extent.{Extent}
use Rattle.ov_event.specs.declared.event.Event as raw
use Rattle.ov_event.specs.declared.event.Event.TheVariants as says
use Rattle.law_partitions.specs.Pieces.{AreBelow}
use Rattle.law_partitions.specs.Sources.{AscendFrom}
use Rattle.ov_catalog.specs.Numbers.{PartNumbers, TargetNumbers, PlanNumbers, SetNumbers, Numbers}
use Rattle.ov_catalog.specs.Events.{leaving, is_empty, segments_at, current}

-- no partition has the number
abbrev pub NoPart : {S : Type 0} → ℕ → List (PartNumbers S) → Type 0
NoPart id [] = Unit {0}
NoPart id (part ∷ parts) = (part.id ≢ id) × NoPart id parts

-- the partition of this number, one at most, has no other versions than these
abbrev pub GoesWith : {S : Type 0} → List ℕ → ℕ → List (PartNumbers S) → Type 0
GoesWith versions id [] = Unit {0}
GoesWith versions id (part ∷ parts) = (part.id ≡ id → (is_empty (leaving versions part) ≡ true) × NoPart id parts) × GoesWith versions id parts

-- A target keeps nothing, or segments of one partition, which goes with it, in ascending places.
pub record KeepsOfOne {S : Type 0} (t : TargetNumbers) (parts : List (PartNumbers S)) : Type 0 where
  pub ascend : AscendFrom 0 t.kept
  pub below : AreBelow (length (segments_at t.source parts)) t.kept
  pub goes : (t.kept ≡ []) ⊎ GoesWith t.versions t.source parts

abbrev pub MayFlip : {S : Type 0} → Option (PlanNumbers S) → List (PartNumbers S) → Type 0
MayFlip None parts = Unit {0}
MayFlip (Some plan) parts = KeepsOfOne (current plan) parts

abbrev pub NoSet : {L S : Type 0} → ℕ → List (SetNumbers L S) → Type 0
NoSet cvd [] = Unit {0}
NoSet cvd (d ∷ sets) = (d.number ≢ cvd) × NoSet cvd sets

-- of the dataset of this number, one at most
abbrev pub FlipFits : {L S : Type 0} → ℕ → List (SetNumbers L S) → Type 0
FlipFits cvd [] = Unit {0}
FlipFits cvd (d ∷ sets) = (d.number ≡ cvd → MayFlip d.plan d.parts × NoSet cvd sets) × FlipFits cvd sets

abbrev pub IsApart : raw.Event → Numbers Extent Extent → Type 0
IsApart (says.Flip cvd) n = FlipFits cvd n.sets
IsApart _ n = Unit {0}
