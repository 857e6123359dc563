-- A tree of versions, as numbers.
--     tree_of nodes      what a list of nodes says of each vid
--     vids count      1, 2, 3 and so on up to count
--     all_records nodes, all_members nodes      T and E
use Rattle.std.specs.Prelude.{◌≡◌, ℕ, suc, ◌+◌, ◌-◌, ◌<◌, ◌≤◌, List, [], ◌∷◌, length, slice_index_or}
use Rattle.std.specs.List.{range_with_len}
use Rattle.ov_graph.specs.declared.nodes.Node.{Node}

-- of each vid: how many records the version has, how many of them its tree parent has too, and that parent's vid
pub record VersionTree : Type 0 where
  pub records : ℕ → ℕ
  pub weight : ℕ → ℕ
  pub parent : ℕ → ℕ

abbrev pub no_node : Node
no_node = record { records = 0; parent = 0; weight = 0 }

abbrev pub node_at : List Node → ℕ → Node
node_at nodes vid = slice_index_or nodes (vid - 1) no_node

abbrev pub tree_of : List Node → VersionTree
tree_of nodes = record { records = λ vid. (node_at nodes vid).records; weight = λ vid. (node_at nodes vid).weight; parent = λ vid. (node_at nodes vid).parent }

-- the edge of a node to its tree parent, where the version's vid is vid
pub record IsTreeEdge (nodes : List Node) (vid : ℕ) (node : Node) : Type 0 where
  pub from_one : 1 ≤ node.parent
  pub below : node.parent < vid
  pub within_own : node.weight ≤ node.records
  pub within_parent : node.weight ≤ (node_at nodes node.parent).records

-- a sound tree: its root has no parent and the weight 0, and each later version has a parent with a lower vid
pub record IsSound (nodes : List Node) : Type 0 where
  pub few : length nodes ≤ 65535
  pub root_parent : (node_at nodes 1).parent ≡ 0
  pub root_weight : (node_at nodes 1).weight ≡ 0
  pub edges : (k : ℕ) → 0 < k → k < length nodes → IsTreeEdge nodes (suc k) (slice_index_or nodes k no_node)

-- a sum over versions
abbrev pub total : (ℕ → ℕ) → List ℕ → ℕ
total f [] = 0
total f (vid ∷ vids) = f vid + total f vids

-- the records that a version doesn't share with its tree parent
abbrev pub fresh : VersionTree → ℕ → ℕ
fresh tree vid = tree.records vid - tree.weight vid

abbrev pub vids : ℕ → List ℕ
vids count = range_with_len 1 count

abbrev pub vids_of : List Node → List ℕ
vids_of nodes = vids (length nodes)

-- T
abbrev pub all_records : List Node → ℕ
all_records nodes = total (fresh (tree_of nodes)) (vids_of nodes)

-- E
abbrev pub all_members : List Node → ℕ
all_members nodes = total (tree_of nodes).records (vids_of nodes)
