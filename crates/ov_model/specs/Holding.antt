-- Partitions have what they have to have.
--     AreHeld sets      each partition keeps all records of each version that it serves
--     MayFlip m w      a flip finds no record missing
use Rattle.std.specs.Prelude.{◌≡◌, ◌≤◌, ℕ, List, [], ◌∷◌, length, Option, Some, None}
use Rattle.ov_model.specs.Lists.{AreIn}
use Rattle.ov_model.specs.Moves.{Move, Flip}
use Rattle.ov_model.specs.Plans.{missing}
use Rattle.ov_model.specs.Records.{Rec, recs, of_version}
use Rattle.ov_model.specs.World.{Part, Plan, Dataset, World, held}

-- the records of these versions, which are there, are among these
abbrev pub VersionsAreIn : List (List Rec) → List ℕ → List Rec → Type 0
VersionsAreIn done [] all = Unit {0}
VersionsAreIn done (vid ∷ vids) all = (((1 ≤ vid) × (vid ≤ length done)) × AreIn (of_version done vid) all) × VersionsAreIn done vids all

abbrev pub PartsHold : List (List Rec) → List Part → Type 0
PartsHold done [] = Unit {0}
PartsHold done (part ∷ parts) = VersionsAreIn done part.versions (held part) × PartsHold done parts

abbrev pub IsHeld : Dataset → Type 0
IsHeld d = PartsHold (recs d.cvd.versions []) d.parts

abbrev pub AreHeld : List Dataset → Type 0
AreHeld [] = Unit {0}
AreHeld (d ∷ sets) = IsHeld d × AreHeld sets

-- nothing is missing of a plan's current target
abbrev pub HasAll : Dataset → Option Plan → Type 0
HasAll d None = Unit {0}
HasAll d (Some plan) = missing d plan ≡ []

abbrev pub AllHaveAll : ℕ → List Dataset → Type 0
AllHaveAll cvd [] = Unit {0}
AllHaveAll cvd (d ∷ sets) = (d.cvd.number ≡ cvd → HasAll d d.plan) × AllHaveAll cvd sets

abbrev pub MayFlip : Move → World → Type 0
MayFlip (Flip cvd) w = AllHaveAll cvd w.sets
MayFlip _ w = Unit {0}
