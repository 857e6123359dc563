-- What a finished plan leaves.
--     IsFinished w d p q      the dataset's partitions are the split, and both bounds hold of them
--     StaysSplit w d p q      in a later World they still are
use Rattle.std.specs.Prelude.{◌≡◌, ℕ, None}
use Rattle.ov_model.specs.Lists.{IsIn}
use Rattle.ov_model.specs.World.{Dataset, World, copied_records}
use Rattle.law_partitions.specs.PlanBounds.{IsBounded}
use Rattle.law_partitions.specs.PlanEnds.{IsSplit}

-- no plan of it runs there, its partitions, by number, are the parts of the split in order, each tight, and the bounds hold
pub record IsFinished (w : World) (d : Dataset) (p q : ℕ) : Type 0 where
  pub there : IsIn w.sets d
  pub idle : d.plan ≡ None
  pub split : IsSplit d p q
  pub bounds : IsBounded d p q

-- There is a dataset with the same number, versions and partitions. The bounds go on to hold until something is copied for a
-- new plan, which is stored beside the partitions.
pub record StaysSplit (w : World) (d : Dataset) (p q : ℕ) : Type 0 where
  pub set : Dataset
  pub there : IsIn w.sets set
  pub cvd : set.cvd ≡ d.cvd
  pub parts : set.parts ≡ d.parts
  pub split : IsSplit set p q
  pub bounds : copied_records set.plan ≡ 0 → IsBounded set p q
