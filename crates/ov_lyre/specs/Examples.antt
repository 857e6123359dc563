-- Worked splits: small trees, and what their splits are, as it was worked out apart from the definition. That the
-- definition says just this is proved by computing it.
--     AllSplit examples      each of these trees is split so
use Rattle.std.specs.Prelude.{◌≡◌, ℕ, List, [], ◌∷◌, map}
use Rattle.ov_graph.specs.declared.nodes.Node.{Node}
use Rattle.ov_graph.specs.Splits.{parts_of, cut_edges_of, depth_of}

-- a tree, each version as its records, its tree parent and its weight; a threshold; the parts, the cut edges and the depth
pub record Example : Type 0 where
  pub tree : List (ℕ × ℕ × ℕ)
  pub p : ℕ
  pub q : ℕ
  pub parts : List (List ℕ)
  pub cuts : List ℕ
  pub depth : ℕ

abbrev pub node : ℕ × ℕ × ℕ → Node
node row = record { records = row.0; parent = row.1; weight = row.2 }

abbrev pub nodes_of : Example → List Node
nodes_of e = map node e.tree

-- the definition says so of a tree
pub record IsSplitSo (e : Example) : Type 0 where
  pub parts : parts_of (nodes_of e) e.p e.q ≡ e.parts
  pub cuts : cut_edges_of (nodes_of e) e.p e.q ≡ e.cuts
  pub depth : depth_of (nodes_of e) e.p e.q ≡ e.depth

abbrev pub AllSplit : List Example → Type 0
AllSplit [] = Unit {0}
AllSplit (e ∷ es) = IsSplitSo e × AllSplit es

-- a chain that stops whole
abbrev pub whole_chain : Example
whole_chain = record {
  tree = (4, 0, 0) ∷ (4, 1, 1) ∷ (5, 2, 4) ∷ [];
  p = 1;
  q = 2;
  parts = (1 ∷ 2 ∷ 3 ∷ []) ∷ [];
  cuts = [];
  depth = 0;
}

-- a chain that is cut once, above version 2
abbrev pub once_cut_chain : Example
once_cut_chain = record {
  tree = (4, 0, 0) ∷ (4, 1, 1) ∷ (5, 2, 4) ∷ [];
  p = 3;
  q = 4;
  parts = (1 ∷ []) ∷ (2 ∷ 3 ∷ []) ∷ [];
  cuts = 2 ∷ [];
  depth = 1;
}

-- a chain that is cut twice
abbrev pub twice_cut_chain : Example
twice_cut_chain = record {
  tree = (4, 0, 0) ∷ (4, 1, 1) ∷ (5, 2, 4) ∷ [];
  p = 1;
  q = 1;
  parts = (1 ∷ []) ∷ (2 ∷ []) ∷ (3 ∷ []) ∷ [];
  cuts = 2 ∷ 3 ∷ [];
  depth = 2;
}

-- equality stops
abbrev pub equality : Example
equality = record {
  tree = (1, 0, 0) ∷ (3, 1, 1) ∷ [];
  p = 2;
  q = 3;
  parts = (1 ∷ 2 ∷ []) ∷ [];
  cuts = [];
  depth = 0;
}

-- each edge is cut
abbrev pub all_cut : Example
all_cut = record {
  tree = (2, 0, 0) ∷ (3, 1, 1) ∷ (2, 2, 1) ∷ (3, 1, 2) ∷ [];
  p = 1;
  q = 1;
  parts = (1 ∷ []) ∷ (2 ∷ []) ∷ (3 ∷ []) ∷ (4 ∷ []) ∷ [];
  cuts = 2 ∷ 3 ∷ 4 ∷ [];
  depth = 2;
}

-- a star
abbrev pub star : Example
star = record {
  tree = (6, 0, 0) ∷ (5, 1, 5) ∷ (4, 1, 1) ∷ (6, 1, 2) ∷ (3, 1, 3) ∷ (7, 1, 0) ∷ [];
  p = 1;
  q = 2;
  parts = (1 ∷ 2 ∷ 3 ∷ 5 ∷ []) ∷ (4 ∷ []) ∷ (6 ∷ []) ∷ [];
  cuts = 4 ∷ 6 ∷ [];
  depth = 2;
}

-- a star, more finely
abbrev pub fine_star : Example
fine_star = record {
  tree = (6, 0, 0) ∷ (5, 1, 5) ∷ (4, 1, 1) ∷ (6, 1, 2) ∷ (3, 1, 3) ∷ (7, 1, 0) ∷ [];
  p = 9;
  q = 10;
  parts = (1 ∷ []) ∷ (2 ∷ []) ∷ (3 ∷ []) ∷ (4 ∷ []) ∷ (5 ∷ []) ∷ (6 ∷ []) ∷ [];
  cuts = 2 ∷ 3 ∷ 4 ∷ 5 ∷ 6 ∷ [];
  depth = 5;
}

-- a random tree
abbrev pub random_tree : Example
random_tree = record {
  tree = (6, 0, 0) ∷ (7, 1, 5) ∷ (2, 1, 2) ∷ (6, 1, 4) ∷ (9, 1, 1) ∷ (2, 2, 1) ∷ (2, 6, 0) ∷ (9, 4, 3) ∷ (10, 5, 1) ∷ [];
  p = 2;
  q = 5;
  parts = (1 ∷ 3 ∷ 4 ∷ 8 ∷ []) ∷ (2 ∷ []) ∷ (5 ∷ 9 ∷ []) ∷ (6 ∷ 7 ∷ []) ∷ [];
  cuts = 2 ∷ 5 ∷ 6 ∷ [];
  depth = 2;
}

-- another one
abbrev pub other_random_tree : Example
other_random_tree = record {
  tree = (4, 0, 0) ∷ (10, 1, 4) ∷ (1, 2, 0) ∷ (9, 1, 1) ∷ (7, 3, 0) ∷ (10, 2, 4) ∷ (2, 4, 2) ∷ (6, 5, 0) ∷ (10, 5, 0) ∷ (8, 7, 2) ∷ [];
  p = 3;
  q = 5;
  parts = (1 ∷ 2 ∷ []) ∷ (3 ∷ []) ∷ (4 ∷ []) ∷ (5 ∷ []) ∷ (6 ∷ []) ∷ (7 ∷ 10 ∷ []) ∷ (8 ∷ []) ∷ (9 ∷ []) ∷ [];
  cuts = 3 ∷ 4 ∷ 5 ∷ 6 ∷ 7 ∷ 8 ∷ 9 ∷ [];
  depth = 4;
}

-- a random tree with heavy edges
abbrev pub heavy_tree : Example
heavy_tree = record {
  tree = (9, 0, 0) ∷ (6, 1, 6) ∷ (10, 2, 6) ∷ (6, 2, 6) ∷ (4, 3, 4) ∷ (12, 3, 10) ∷ (2, 4, 2) ∷ (9, 6, 9) ∷ (6, 8, 6) ∷ (5, 9, 5) ∷ [];
  p = 1;
  q = 3;
  parts = (1 ∷ 2 ∷ 3 ∷ 4 ∷ 5 ∷ 6 ∷ 7 ∷ 8 ∷ 9 ∷ 10 ∷ []) ∷ [];
  cuts = [];
  depth = 0;
}

-- another one
abbrev pub other_heavy_tree : Example
other_heavy_tree = record {
  tree = (10, 0, 0) ∷ (2, 1, 2) ∷ (3, 2, 2) ∷ (3, 2, 2) ∷ (7, 4, 3) ∷ (11, 2, 2) ∷ (9, 3, 3) ∷ (6, 6, 6) ∷ (10, 7, 9) ∷ (10, 9, 10) ∷ (2, 10, 2) ∷ [];
  p = 4;
  q = 5;
  parts = (1 ∷ []) ∷ (2 ∷ []) ∷ (3 ∷ []) ∷ (4 ∷ []) ∷ (5 ∷ []) ∷ (6 ∷ []) ∷ (7 ∷ 9 ∷ 10 ∷ []) ∷ (8 ∷ []) ∷ (11 ∷ []) ∷ [];
  cuts = 2 ∷ 3 ∷ 4 ∷ 5 ∷ 6 ∷ 7 ∷ 8 ∷ 11 ∷ [];
  depth = 4;
}

-- a chain of equal versions
abbrev pub equal_chain : Example
equal_chain = record {
  tree = (3, 0, 0) ∷ (3, 1, 1) ∷ (3, 2, 1) ∷ (3, 3, 1) ∷ (3, 4, 1) ∷ (3, 5, 1) ∷ (3, 6, 1) ∷ (3, 7, 1) ∷ (3, 8, 1) ∷ [];
  p = 1;
  q = 2;
  parts = (1 ∷ 2 ∷ []) ∷ (3 ∷ 4 ∷ []) ∷ (5 ∷ 6 ∷ []) ∷ (7 ∷ []) ∷ (8 ∷ 9 ∷ []) ∷ [];
  cuts = 3 ∷ 5 ∷ 7 ∷ 8 ∷ [];
  depth = 3;
}

-- a chain of 24 versions
abbrev pub long_chain : Example
long_chain = record {
  tree =
      (5, 0, 0) ∷ (11, 1, 0) ∷ (6, 2, 0) ∷ (9, 3, 6) ∷ (9, 4, 7) ∷ (12, 5, 6) ∷ (14, 6, 3) ∷ (3, 7, 3)
      ∷ (2, 8, 1) ∷ (8, 9, 2) ∷ (14, 10, 0) ∷ (13, 11, 7) ∷ (6, 12, 5) ∷ (14, 13, 1) ∷ (11, 14, 1) ∷ (7, 15, 0)
      ∷ (2, 16, 0) ∷ (12, 17, 2) ∷ (2, 18, 1) ∷ (12, 19, 0) ∷ (8, 20, 0) ∷ (10, 21, 3) ∷ (14, 22, 7) ∷ (9, 23, 8) ∷ [];
  p = 2;
  q = 5;
  parts = (1 ∷ 2 ∷ []) ∷ (3 ∷ []) ∷ (4 ∷ 5 ∷ 6 ∷ []) ∷ (7 ∷ 8 ∷ 9 ∷ []) ∷ (10 ∷ 11 ∷ 12 ∷ []) ∷ (13 ∷ 14 ∷ []) ∷ (15 ∷ []) ∷ (16 ∷ 17 ∷ []) ∷ (18 ∷ []) ∷ (19 ∷ 20 ∷ []) ∷ (21 ∷ []) ∷ (22 ∷ 23 ∷ 24 ∷ []) ∷ [];
  cuts = 3 ∷ 4 ∷ 7 ∷ 10 ∷ 13 ∷ 15 ∷ 16 ∷ 18 ∷ 19 ∷ 21 ∷ 22 ∷ [];
  depth = 4;
}

-- a star of 24 versions
abbrev pub wide_star : Example
wide_star = record {
  tree =
      (3, 0, 0) ∷ (3, 1, 0) ∷ (7, 1, 1) ∷ (13, 1, 2) ∷ (6, 1, 1) ∷ (11, 1, 0) ∷ (11, 1, 1) ∷ (8, 1, 3)
      ∷ (14, 1, 2) ∷ (10, 1, 3) ∷ (10, 1, 2) ∷ (2, 1, 0) ∷ (7, 1, 3) ∷ (7, 1, 3) ∷ (8, 1, 1) ∷ (10, 1, 1)
      ∷ (5, 1, 1) ∷ (2, 1, 0) ∷ (7, 1, 1) ∷ (4, 1, 2) ∷ (10, 1, 1) ∷ (9, 1, 3) ∷ (13, 1, 2) ∷ (14, 1, 2) ∷ [];
  p = 1;
  q = 6;
  parts = (1 ∷ 2 ∷ 12 ∷ 13 ∷ 14 ∷ 17 ∷ 18 ∷ 20 ∷ []) ∷ (3 ∷ []) ∷ (4 ∷ []) ∷ (5 ∷ []) ∷ (6 ∷ []) ∷ (7 ∷ []) ∷ (8 ∷ []) ∷ (9 ∷ []) ∷ (10 ∷ []) ∷ (11 ∷ []) ∷ (15 ∷ []) ∷ (16 ∷ []) ∷ (19 ∷ []) ∷ (21 ∷ []) ∷ (22 ∷ []) ∷ (23 ∷ []) ∷ (24 ∷ []) ∷ [];
  cuts = 3 ∷ 4 ∷ 5 ∷ 6 ∷ 7 ∷ 8 ∷ 9 ∷ 10 ∷ 11 ∷ 15 ∷ 16 ∷ 19 ∷ 21 ∷ 22 ∷ 23 ∷ 24 ∷ [];
  depth = 16;
}

-- a random tree of 32 versions
abbrev pub wide_tree : Example
wide_tree = record {
  tree =
      (6, 0, 0) ∷ (7, 1, 4) ∷ (12, 2, 1) ∷ (2, 3, 1) ∷ (10, 3, 3) ∷ (13, 2, 7) ∷ (10, 5, 7) ∷ (12, 4, 0)
      ∷ (12, 4, 0) ∷ (8, 9, 0) ∷ (4, 2, 4) ∷ (6, 1, 6) ∷ (6, 1, 3) ∷ (13, 10, 6) ∷ (14, 12, 3) ∷ (13, 7, 9)
      ∷ (4, 15, 2) ∷ (2, 4, 0) ∷ (5, 16, 2) ∷ (14, 14, 10) ∷ (8, 10, 8) ∷ (11, 13, 2) ∷ (11, 18, 1) ∷ (5, 19, 2)
      ∷ (2, 22, 1) ∷ (12, 20, 11) ∷ (13, 6, 13) ∷ (10, 11, 4) ∷ (3, 19, 1) ∷ (11, 21, 4) ∷ (3, 10, 0) ∷ (12, 16, 7) ∷ [];
  p = 1;
  q = 3;
  parts = (1 ∷ 13 ∷ []) ∷ (2 ∷ 6 ∷ 11 ∷ 27 ∷ 28 ∷ []) ∷ (3 ∷ 5 ∷ 7 ∷ []) ∷ (4 ∷ 8 ∷ 9 ∷ []) ∷ (10 ∷ 21 ∷ 30 ∷ 31 ∷ []) ∷ (12 ∷ 15 ∷ 17 ∷ []) ∷ (14 ∷ 20 ∷ 26 ∷ []) ∷ (16 ∷ 32 ∷ []) ∷ (18 ∷ 23 ∷ []) ∷ (19 ∷ 24 ∷ 29 ∷ []) ∷ (22 ∷ 25 ∷ []) ∷ [];
  cuts = 2 ∷ 3 ∷ 4 ∷ 10 ∷ 12 ∷ 14 ∷ 16 ∷ 18 ∷ 19 ∷ 22 ∷ [];
  depth = 5;
}

-- a random tree of 32 versions, into few parts
abbrev pub coarse_tree : Example
coarse_tree = record {
  tree =
      (6, 0, 0) ∷ (3, 1, 3) ∷ (4, 2, 0) ∷ (2, 1, 1) ∷ (14, 3, 0) ∷ (10, 2, 2) ∷ (14, 3, 1) ∷ (3, 7, 2)
      ∷ (2, 4, 2) ∷ (14, 5, 4) ∷ (4, 4, 1) ∷ (12, 5, 11) ∷ (3, 6, 2) ∷ (8, 11, 4) ∷ (4, 4, 0) ∷ (6, 8, 0)
      ∷ (2, 10, 1) ∷ (14, 10, 8) ∷ (8, 7, 6) ∷ (8, 10, 7) ∷ (5, 6, 2) ∷ (14, 9, 0) ∷ (2, 3, 1) ∷ (6, 21, 4)
      ∷ (12, 18, 7) ∷ (7, 23, 0) ∷ (5, 22, 0) ∷ (5, 14, 5) ∷ (9, 21, 2) ∷ (7, 6, 6) ∷ (11, 24, 2) ∷ (10, 21, 1) ∷ [];
  p = 1;
  q = 8;
  parts = (1 ∷ 4 ∷ 9 ∷ 11 ∷ 14 ∷ 15 ∷ 22 ∷ 27 ∷ 28 ∷ []) ∷ (2 ∷ 6 ∷ 13 ∷ 21 ∷ 24 ∷ 29 ∷ 30 ∷ 31 ∷ 32 ∷ []) ∷ (3 ∷ 7 ∷ 8 ∷ 16 ∷ 19 ∷ 23 ∷ 26 ∷ []) ∷ (5 ∷ 10 ∷ 12 ∷ 17 ∷ 18 ∷ 20 ∷ 25 ∷ []) ∷ [];
  cuts = 2 ∷ 3 ∷ 5 ∷ [];
  depth = 2;
}

abbrev pub worked : List Example
worked = whole_chain ∷ once_cut_chain ∷ twice_cut_chain ∷ equality ∷ all_cut ∷ star ∷ fine_star ∷ random_tree ∷ other_random_tree ∷ heavy_tree ∷ other_heavy_tree ∷ equal_chain ∷ long_chain ∷ wide_star ∷ wide_tree ∷ coarse_tree ∷ []
