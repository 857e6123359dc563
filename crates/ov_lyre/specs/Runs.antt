-- A split under way: parts that wait, the last of which comes next, and what is found so far.
use Rattle.std.specs.Prelude.{◌≡◌, ℕ, ◌+◌, ◌-◌, ◌≤◌, max, List, [], ◌∷◌, ◌++◌, length, map}
use Rattle.ov_graph.specs.Trees.{VersionTree}
use Rattle.ov_graph.specs.Splits.{IsPart, cuts_of, leaves, cut_vids, depth}
use Rattle.ov_lyre.specs.Parts.{lists_of}
use Rattle.ov_lyre.specs.declared.run.Piece.{Piece}
use Rattle.ov_lyre.specs.declared.run.Run.{Run}

-- a part that waits, and how many cuts have led to it
abbrev pub piece_of : Piece → List ℕ × ℕ
piece_of piece = (piece.part.items, piece.level)

abbrev pub pieces_of : List Piece → List (List ℕ × ℕ)
pieces_of pieces = map piece_of pieces

-- the sides below cuts of a part of this level, each one level deeper than the one before it
abbrev pub waiting : ℕ → List (List ℕ) → List (List ℕ × ℕ)
waiting level [] = []
waiting level (side ∷ sides) = (side, level + 1) ∷ waiting (level + 1) sides

-- what the parts that wait will give, the last one first
abbrev pub leaves_left : VersionTree → ℕ → ℕ → List (List ℕ × ℕ) → List (List ℕ)
leaves_left tree p q [] = []
leaves_left tree p q (piece ∷ pieces) = leaves_left tree p q pieces ++ leaves (cuts_of tree p q piece.0)

abbrev pub cuts_left : VersionTree → ℕ → ℕ → List (List ℕ × ℕ) → List ℕ
cuts_left tree p q [] = []
cuts_left tree p q (piece ∷ pieces) = cuts_left tree p q pieces ++ cut_vids (cuts_of tree p q piece.0)

abbrev pub depth_left : VersionTree → ℕ → ℕ → List (List ℕ × ℕ) → ℕ
depth_left tree p q [] = 0
depth_left tree p q (piece ∷ pieces) = max (depth_left tree p q pieces) (piece.1 + depth (cuts_of tree p q piece.0))

-- each piece is a part of the tree, and fewer cuts have led to it than there are other versions
abbrev pub ArePieces : VersionTree → ℕ → List (List ℕ × ℕ) → Type 0
ArePieces tree count [] = Unit {0}
ArePieces tree count (piece ∷ pieces) = IsPart tree count piece.0 × (piece.1 + length piece.0 ≤ count) × ArePieces tree count pieces

-- the run leads to the split of the whole
pub record Leads (tree : VersionTree) (count p q : ℕ) (whole : List ℕ) (pieces : List (List ℕ × ℕ)) (parts : List (List ℕ)) (cuts : List ℕ) (deepest : ℕ) : Type 0 where
  pub are_pieces : ArePieces tree count pieces
  pub leaf_list : parts ++ leaves_left tree p q pieces ≡ leaves (cuts_of tree p q whole)
  pub cut_list : cuts ++ cuts_left tree p q pieces ≡ cut_vids (cuts_of tree p q whole)
  pub deepest_is : max deepest (depth_left tree p q pieces) ≡ depth (cuts_of tree p q whole)

abbrev pub RunLeads : VersionTree → ℕ → ℕ → ℕ → List ℕ → List (List ℕ × ℕ) → Run → Type 0
RunLeads tree count p q whole pieces run = Leads tree count p q whole pieces (lists_of run.split.parts.items) run.split.cuts.items run.split.depth

-- a measure of what waits
abbrev pub pieces_left : List (List ℕ × ℕ) → ℕ
pieces_left [] = 0
pieces_left (piece ∷ pieces) = (length piece.0 + length piece.0 - 1) + pieces_left pieces
