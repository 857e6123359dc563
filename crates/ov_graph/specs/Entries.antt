-- How a graph keeps its versions, and marks at their indices.
use Rattle.std.specs.Prelude.{◌≡◌, ℕ, ◌+◌, ◌-◌, ◌<◌, ◌≤◌, Bool, false, IsTrue, ◌↔◌, List, length, map, filter, slice_index_or}
use Rattle.ov_graph.specs.declared.graph.Entry.{Entry}
use Rattle.ov_graph.specs.Versions.{Version}
use Rattle.ov_graph.specs.Trees.{vids}

abbrev pub version_of : Entry → Version
version_of entry = record { records = entry.records; parents = entry.parents.items }

abbrev pub versions_of : List Entry → List Version
versions_of entries = map version_of entries

-- each vid is from 1 to count
abbrev pub AreBelow : List (ℕ × ℕ) → ℕ → Type 0
AreBelow parents count = (k : ℕ) → k < length parents → (1 ≤ (slice_index_or parents k (0, 0)).0) × ((slice_index_or parents k (0, 0)).0 ≤ count)

-- a mark stands at each version of which P holds, and at no other one
pub record AreMarks (marks : List Bool) (count : ℕ) (P : ℕ → Type 0) : Type 0 where
  pub long : length marks ≡ count
  pub marked : (k : ℕ) → k < count → IsTrue (slice_index_or marks k false) ↔ P (k + 1)

abbrev pub marked_vids : List Bool → List ℕ
marked_vids marks = filter (λ vid. slice_index_or marks (vid - 1) false) (vids (length marks))
