-- A graph of versions that has nothing but their parents: no version has records, and no edge has weight.
use Rattle.std.specs.Prelude.{◌≤◌, ◌<◌, ℕ, List, length, map, slice_index_or}
use Rattle.ov_graph.specs.Versions.{Version}

abbrev pub bare_edge : ℕ → ℕ × ℕ
bare_edge parent = (parent, 0)

abbrev pub bare_version : List ℕ → Version
bare_version parents = record { records = 0; parents = map bare_edge parents }

abbrev pub bare_graph : List (List ℕ) → List Version
bare_graph parents = map bare_version parents

-- each is from 1 to count
abbrev pub AreWithin : ℕ → List ℕ → Type 0
AreWithin count vids = (k : ℕ) → k < length vids → (1 ≤ slice_index_or vids k 0) × (slice_index_or vids k 0 ≤ count)
