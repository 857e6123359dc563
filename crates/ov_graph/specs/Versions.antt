-- The graph of a dataset's versions, and the tree that is kept of it. Versions are numbered 1, 2, 3 and so on: the
-- vid of a version is its place in the list, from 1.
use Rattle.std.specs.Prelude.{◌≡◌, ℕ, ◌-◌, ◌<◌, ◌≤◌, Bool, ◌==◌, nat_lt, if◌then◌else◌, IsTrue, List, [], ◌∷◌, length, take, map, slice_index_or}
use Rattle.std.specs.List.{list_any}
use Rattle.ov_graph.specs.declared.nodes.Node.{Node}

-- how many records a version has, and its parents in the order in which they were named: each as its vid and its
-- weight, the number of records that both versions have
pub record Version : Type 0 where
  pub records : ℕ
  pub parents : List (ℕ × ℕ)

abbrev pub no_version : Version
no_version = record { records = 0; parents = [] }

abbrev pub version_at : List Version → ℕ → Version
version_at versions vid = slice_index_or versions (vid - 1) no_version

-- whether a vid is among parents
abbrev pub names : List (ℕ × ℕ) → ℕ → Bool
names parents vid = list_any (λ edge. edge.0 == vid) parents

abbrev pub is_parent : List Version → ℕ → ℕ → Bool
is_parent versions vid child = names (version_at versions child).parents vid

-- an edge to a version that is there, with a weight of at most either version's records
pub record IsEdge (versions : List Version) (records : ℕ) (edge : ℕ × ℕ) : Type 0 where
  pub from_one : 1 ≤ edge.0
  pub is_there : edge.0 ≤ length versions
  pub within_own : edge.1 ≤ records
  pub within_parent : edge.1 ≤ (version_at versions edge.0).records

-- a version that may follow these: the first has no parents, a later one has at least one
pub record MayFollow (versions : List Version) (version : Version) : Type 0 where
  pub first : length versions ≡ 0 → version.parents ≡ []
  pub later : 0 < length versions → 0 < length version.parents
  pub edges : (k : ℕ) → k < length version.parents → IsEdge versions version.records (slice_index_or version.parents k (0, 0))

-- each version may follow those before it
pub record IsGraph (versions : List Version) : Type 0 where
  pub few : length versions ≤ 65535
  pub each : (k : ℕ) → k < length versions → MayFollow (take k versions) (slice_index_or versions k no_version)

-- the first version is the second one's parent, or its parent's parent, and so on
pub data IsAncestor (versions : List Version) : ℕ → ℕ → Type 0 where
  near : {vid child : ℕ} → IsTrue (is_parent versions vid child) → IsAncestor versions vid child
  far : {vid child : ℕ} (parent : ℕ) → IsTrue (is_parent versions parent child) → IsAncestor versions vid parent → IsAncestor versions vid child

-- the parent with the greatest weight, ties to the one listed first; (0, 0) where there is none
abbrev pub heaviest : List (ℕ × ℕ) → ℕ × ℕ
heaviest [] = (0, 0)
heaviest (edge ∷ edges) = if nat_lt edge.1 (heaviest edges).1 then heaviest edges else edge

-- Reduced tree: each version keeps one parent
abbrev pub node_of : Version → Node
node_of version = record { records = version.records; parent = (heaviest version.parents).0; weight = (heaviest version.parents).1 }

abbrev pub reduced : List Version → List Node
reduced versions = map node_of versions

-- what keeping the heaviest parent means: the kept edge is listed, no other one is heavier, and none before it is as heavy
pub record IsKept (edges : List (ℕ × ℕ)) (edge : ℕ × ℕ) : Type 0 where
  pub place : ℕ
  pub within : place < length edges
  pub is : slice_index_or edges place (0, 0) ≡ edge
  pub greatest : (k : ℕ) → k < length edges → (slice_index_or edges k (0, 0)).1 ≤ edge.1
  pub first : (k : ℕ) → k < place → (slice_index_or edges k (0, 0)).1 < edge.1
