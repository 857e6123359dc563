-- Where a plan begins and where it ends, and which moves concern it.
--     EndsPlan w items k d plan      behind World k comes the last flip of this plan, which runs there in this dataset
--     BeganAt items b k number p q      the plan that ran there began behind World b
--     BeginsNoPlan number m, BringsNoVersion number m, LeavesParts number m      what a move doesn't do with a dataset
--     Waits d part      a version of the partition wasn't moved by the plan yet
use Rattle.std.specs.Prelude.{◌≡◌, ◌≢◌, ◌≤◌, ◌<◌, ℕ, ◌+◌, true, List, slice_get, Some, None}
use Rattle.ov_model.specs.Course.{Item, moves_of, world_at}
use Rattle.ov_model.specs.Lists.{IsIn}
use Rattle.ov_model.specs.Moves.{Move, Commit, BeginPlan, Flip, Drop}
use Rattle.ov_model.specs.Placed.{times}
use Rattle.ov_model.specs.Plans.{flipped}
use Rattle.ov_model.specs.World.{Part, Plan, Dataset, World, is_unmoved}
use Rattle.law_plans.specs.Runs.{Between}

-- The next move is a flip of this dataset, in which this plan runs, and no plan runs in it behind that flip.
pub record EndsPlan (w : World) (items : List Item) (k : ℕ) (d : Dataset) (plan : Plan) : Type 0 where
  pub flips : slice_get (moves_of items) k ≡ Some (Flip d.cvd.number)
  pub there : IsIn (world_at w items k).sets d
  pub runs : d.plan ≡ Some plan
  pub last : (flipped d).plan ≡ None

-- it begins no plan of the dataset of this number
abbrev pub BeginsNoPlan : ℕ → Move → Type 0
BeginsNoPlan number (BeginPlan cvd p q) = cvd ≢ number
BeginsNoPlan number _ = Unit {0}

-- it is no commit to it
abbrev pub BringsNoVersion : ℕ → Move → Type 0
BringsNoVersion number (Commit cvd parents message added rows) = cvd ≢ number
BringsNoVersion number _ = Unit {0}

-- it is no commit to it, no flip of it, and doesn't drop it
abbrev pub LeavesParts : ℕ → Move → Type 0
LeavesParts number (Commit cvd parents message added rows) = cvd ≢ number
LeavesParts number (Flip cvd) = cvd ≢ number
LeavesParts number (Drop cvd) = cvd ≢ number
LeavesParts number _ = Unit {0}

-- The move behind World b begins a plan of the dataset of this number at p / q, and up to World k no other one begins.
pub record BeganAt (items : List Item) (b k number p q : ℕ) : Type 0 where
  pub begins : slice_get (moves_of items) b ≡ Some (BeginPlan number p q)
  pub before : b < k
  pub only : Between items (b + 1) k (BeginsNoPlan number)

-- a version of this partition is in a target that wasn't flipped yet
pub record Waits (d : Dataset) (part : Part) : Type 0 where
  pub vid : ℕ
  pub served : 1 ≤ times part.versions vid
  pub unmoved : is_unmoved d.plan vid ≡ true
