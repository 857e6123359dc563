-- The table of thresholds: the splits at p / 100 for p from 1 to 100, and what their tight partitions store and cost. A tree and the
-- rids of each version are given, the first version's first.
--     rids_in lists vids      the rids of these versions together
--     sizes_of lists parts      of each part its versions and its records
--     table nodes lists      a line for each p from 1 to 100
use Rattle.std.specs.Prelude.{ℕ, ◌-◌, List, [], ◌∷◌, ◌++◌, length, map, slice_index_or}
use Rattle.std.specs.List.{range_with_len}
use Rattle.ov_graph.specs.declared.nodes.Node.{Node}
use Rattle.ov_graph.specs.Splits.{cost, depth_of, parts_of, stored}
use Rattle.ov_member.specs.Rids.{left_out}
use Rattle.ov_budget.specs.declared.thresholds.Line.{Line}

-- the rids of a version by its number
abbrev pub list_at : List (List ℕ) → ℕ → List ℕ
list_at lists vid = slice_index_or lists (vid - 1) []

-- the rids of these versions together, each once
abbrev pub rids_in : List (List ℕ) → List ℕ → List ℕ
rids_in lists [] = []
rids_in lists (vid ∷ vids) = left_out (list_at lists vid) (rids_in lists vids) ++ rids_in lists vids

-- what the partitions of these parts will be: of each its versions and its records
abbrev pub sizes_of : List (List ℕ) → List (List ℕ) → List (ℕ × ℕ)
sizes_of lists parts = map (λ part. (length part, length (rids_in lists part))) parts

-- the split at p / 100: its depth, and what its tight partitions store and cost
abbrev pub line_at : List Node → List (List ℕ) → ℕ → Line
line_at nodes lists p = record {
  depth = depth_of nodes p 100;
  partitions = length (parts_of nodes p 100);
  stored = stored (sizes_of lists (parts_of nodes p 100));
  cost = cost (sizes_of lists (parts_of nodes p 100));
}

unfoldable pub table : List Node → List (List ℕ) → List Line
table nodes lists = map (line_at nodes lists) (range_with_len 1 100)
