-- What a plan makes of a dataset's partitions.
--     HasAllVersions d plan      no version came after it began
--     IsSplitting d plan      its targets are the parts of the split, and those that were flipped stand last
--     IsSplit d p q      the partitions are the parts of the split, in order
use Rattle.std.specs.Prelude.{◌≡◌, ◌≢◌, ◌≤◌, ◌<◌, ℕ, ◌+◌, List, [], ◌∷◌, ◌++◌, length, map, take, Option, Some, None}
use Rattle.ov_model.specs.Book.{Version}
use Rattle.ov_model.specs.Lists.{IsIn}
use Rattle.ov_model.specs.Placed.{AreThere}
use Rattle.ov_model.specs.Plans.{parts_at}
use Rattle.ov_model.specs.Records.{AllRise}
use Rattle.ov_model.specs.World.{Part, Target, Plan, Dataset}
use Rattle.law_partitions.specs.OldOrNew.{IsOld, IsNew, AllTight}
use Rattle.law_partitions.specs.Pieces.{target_times}

abbrev pub versions_of : List Part → List (List ℕ)
versions_of parts = map (λ part. part.versions) parts

abbrev pub listed_by : List Target → List (List ℕ)
listed_by targets = map (λ t. t.versions) targets

-- each version of the dataset is in a target
abbrev pub HasAllVersions : Dataset → Plan → Type 0
HasAllVersions d plan = (vid : ℕ) → 1 ≤ vid → vid ≤ length d.cvd.versions → 1 ≤ target_times plan.targets vid

abbrev pub HasAllIn : Dataset → Option Plan → Type 0
HasAllIn d None = Unit {0}
HasAllIn d (Some plan) = HasAllVersions d plan

abbrev pub PlanHasAll : Dataset → Type 0
PlanHasAll d = HasAllIn d d.plan

-- first those that wait, and then these lists of versions
pub record AreFlipped (plan : Option Plan) (parts : List Part) (flipped : List (List ℕ)) : Type 0 where
  pub olds : List Part
  pub news : List Part
  pub are : parts ≡ olds ++ news
  pub old : (part : Part) → IsIn olds part → IsOld plan part
  pub new : (part : Part) → IsIn news part → IsNew plan part
  pub in_order : versions_of news ≡ flipped

pub record IsSplitting (d : Dataset) (plan : Plan) : Type 0 where
  pub from_one : 1 ≤ plan.p
  pub up_to_q : plan.p ≤ plan.q
  pub targets : listed_by plan.targets ≡ parts_at d plan.p plan.q
  pub flipped : AreFlipped (Some plan) d.parts (listed_by (take plan.at plan.targets))

abbrev pub Splits : Dataset → Option Plan → Type 0
Splits d None = Unit {0}
Splits d (Some plan) = HasAllVersions d plan → IsSplitting d plan

-- partitions by number, from one number on and below another
abbrev pub AreByNumber : ℕ → ℕ → List Part → Type 0
AreByNumber low high [] = low ≤ high
AreByNumber low high (part ∷ parts) = (low ≤ part.id) × AreByNumber (part.id + 1) high parts

-- the parents of the version behind so many
pub record AreParents (before : ℕ) (parents : List ℕ) : Type 0 where
  pub first : before ≡ 0 → parents ≡ []
  pub later : 0 < before → parents ≢ []
  pub there : AreThere before parents

-- versions behind so many: the first of all has no parent, and each later one has parents before it
abbrev pub HaveParents : ℕ → List Version → Type 0
HaveParents before [] = Unit {0}
HaveParents before (v ∷ versions) = AreParents before v.parents × HaveParents (before + 1) versions

-- What holds of a dataset, whether a plan runs or not. Each version's rows stand in key order, no key twice.
pub record IsPlanned (d : Dataset) : Type 0 where
  pub splits : Splits d d.plan
  pub by_number : AreByNumber 1 d.next_part d.parts
  pub parents : HaveParents 0 d.cvd.versions
  pub rows : AllRise d.cvd.schema d.cvd.versions

abbrev pub ArePlanned : List Dataset → Type 0
ArePlanned [] = Unit {0}
ArePlanned (d ∷ sets) = IsPlanned d × ArePlanned sets

-- partitions by number, each tight, are the parts of the split in order, at a threshold up to 1
pub record IsSplit (d : Dataset) (p q : ℕ) : Type 0 where
  pub from_one : 1 ≤ p
  pub up_to_q : p ≤ q
  pub by_number : AreByNumber 1 d.next_part d.parts
  pub are : versions_of d.parts ≡ parts_at d p q
  pub tight : AllTight d.parts
