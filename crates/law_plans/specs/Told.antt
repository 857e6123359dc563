-- What the reply to an optimize tells, and what stands.
--     figures_told reply      what it tells of what will stand
--     figures_planned d p q      what will stand when a plan of the split at p / q is done
--     figures_standing d p q      what stands
--     reply_behind items k      the reply directly behind a move
--     IsAnswered w items b number p q      a plan's beginning is answered by what will stand
--     IsAsTold items b d p q      what stands is what that answer told
use Rattle.std.specs.Prelude.{◌≡◌, ℕ, zero, suc, List, [], ◌∷◌, length, Option, Some, None}
use Rattle.ov_graph.specs.Splits as splits
use Rattle.ov_graph.specs.Trees.{all_records, all_members}
use Rattle.ov_model.specs.Course.{Item, Makes, Says, world_at}
use Rattle.ov_model.specs.Lists.{IsIn}
use Rattle.ov_model.specs.Plans.{depth_at, nodes_of_set, parts_at, sizes_of}
use Rattle.ov_model.specs.World.{Dataset, World, cost, stored}
use Rattle.ov_model.specs.declared.reply.Reply.{Reply}
use Rattle.ov_model.specs.declared.reply.Reply.TheVariants as says

-- the depth of the split, the number of partitions, the records that they store together, T and E of the reduced tree, and
-- what a checkout of each version once reads
pub record Figures : Type 0 where
  pub depth : ℕ
  pub partitions : ℕ
  pub stored_records : ℕ
  pub tree_records : ℕ
  pub tree_members : ℕ
  pub read_records : ℕ

-- the replies to an optimize, at a threshold or within a budget, tell these; no other reply does
abbrev pub figures_told : Reply → Option Figures
figures_told (says.Optimize depth partitions stored records members cost steps) = Some (record {
  depth = depth;
  partitions = partitions;
  stored_records = stored;
  tree_records = records;
  tree_members = members;
  read_records = cost;
})
figures_told (says.Within lines chosen depth partitions stored records members cost steps) = Some (record {
  depth = depth;
  partitions = partitions;
  stored_records = stored;
  tree_records = records;
  tree_members = members;
  read_records = cost;
})
figures_told _ = None

abbrev pub figures_planned : Dataset → ℕ → ℕ → Figures
figures_planned d p q = record {
  depth = depth_at d p q;
  partitions = length (parts_at d p q);
  stored_records = splits.stored (sizes_of d (parts_at d p q));
  tree_records = all_records (nodes_of_set d);
  tree_members = all_members (nodes_of_set d);
  read_records = splits.cost (sizes_of d (parts_at d p q));
}

abbrev pub figures_standing : Dataset → ℕ → ℕ → Figures
figures_standing d p q = record {
  depth = depth_at d p q;
  partitions = length d.parts;
  stored_records = stored d;
  tree_records = all_records (nodes_of_set d);
  tree_members = all_members (nodes_of_set d);
  read_records = cost d;
}

-- the reply with which these begin
abbrev pub first_reply : List Item → Option Reply
first_reply [] = None
first_reply (Makes m ∷ items) = None
first_reply (Says reply ∷ items) = Some reply

-- the reply directly behind the k-th move, counted from 0; None where there is none
abbrev pub reply_behind : List Item → ℕ → Option Reply
reply_behind [] k = None
reply_behind (Makes m ∷ items) zero = first_reply items
reply_behind (Makes m ∷ items) (suc k) = reply_behind items k
reply_behind (Says reply ∷ items) k = reply_behind items k

-- The dataset of this number is there at World b, and the reply behind the next move tells what a plan of it at p / q comes to.
pub record IsAnswered (w : World) (items : List Item) (b number p q : ℕ) : Type 0 where
  pub set : Dataset
  pub there : IsIn (world_at w items b).sets set
  pub numbered : set.cvd.number ≡ number
  pub reply : Reply
  pub behind : reply_behind items b ≡ Some reply
  pub tells : figures_told reply ≡ Some (figures_planned set p q)

-- the reply behind this move told what stands of the dataset
pub record IsAsTold (items : List Item) (b : ℕ) (d : Dataset) (p q : ℕ) : Type 0 where
  pub reply : Reply
  pub behind : reply_behind items b ≡ Some reply
  pub tells : figures_told reply ≡ Some (figures_standing d p q)
