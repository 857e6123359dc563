-- A split under way: its start, a part that stops, a cut, and its end.
use Rattle.std.proofs.Common.{◌≡◌, ℕ, suc, ◌+◌, ◌-◌, ◌<◌, ◌≤◌, max, Result, Ok, Err, Some, None, List, [], ◌∷◌, ◌++◌, length, refl, sym, ◌∙◌, ap, subst, append_assoc, arith}
use Rattle.std.specs.Result.{OnOk}
use Rattle.std.proofs.lemmas.List.{append-nil, map_push}
use Rattle.ov_graph.specs.Trees.{VersionTree}
use Rattle.ov_graph.specs.Splits.{Has, IsPart, edges, lower, upper, next_cut_of, cuts_of, leaves, cut_vids, depth}
use Rattle.ov_lyre.specs.declared.run.Piece.{Piece}
use Rattle.ov_lyre.specs.Runs.{piece_of, pieces_of, waiting, leaves_left, cuts_left, depth_left, ArePieces, Leads, pieces_left}
use Rattle.ov_lyre.proofs.UnderFacts.{IsSoundTree}
use Rattle.ov_lyre.specs.Sides.{left, lowers, AreInside, AreNext}
use Rattle.ov_lyre.proofs.EdgeFacts.{cut-at}
use Rattle.ov_lyre.proofs.CutFacts.{sides}
use Rattle.ov_lyre.proofs.CutsFacts.{shorter, cuts_of-whole, cuts_of-cut}

module _ (tree : VersionTree) (p q : ℕ) where
  leaves-last : (pieces : List (List ℕ × ℕ)) (piece : List ℕ × ℕ) → leaves_left tree p q (pieces ++ piece ∷ []) ≡ leaves (cuts_of tree p q piece.0) ++ leaves_left tree p q pieces
  leaves-last [] piece = sym (append-nil (leaves (cuts_of tree p q piece.0)))
  leaves-last (x ∷ pieces) piece = ap (λ (ys : List (List ℕ)). ys ++ leaves (cuts_of tree p q x.0)) (leaves-last pieces piece) ∙ append_assoc (leaves (cuts_of tree p q piece.0)) (leaves_left tree p q pieces) (leaves (cuts_of tree p q x.0))

  cuts-last : (pieces : List (List ℕ × ℕ)) (piece : List ℕ × ℕ) → cuts_left tree p q (pieces ++ piece ∷ []) ≡ cut_vids (cuts_of tree p q piece.0) ++ cuts_left tree p q pieces
  cuts-last [] piece = sym (append-nil (cut_vids (cuts_of tree p q piece.0)))
  cuts-last (x ∷ pieces) piece = ap (λ (ys : List ℕ). ys ++ cut_vids (cuts_of tree p q x.0)) (cuts-last pieces piece) ∙ append_assoc (cut_vids (cuts_of tree p q piece.0)) (cuts_left tree p q pieces) (cut_vids (cuts_of tree p q x.0))

  depth-last : (pieces : List (List ℕ × ℕ)) (piece : List ℕ × ℕ) → depth_left tree p q (pieces ++ piece ∷ []) ≡ max (piece.1 + depth (cuts_of tree p q piece.0)) (depth_left tree p q pieces)
  depth-last [] piece = omega arith
  depth-last (x ∷ pieces) piece = let rest = depth-last pieces piece in omega arith

pieces-last : (pieces : List (List ℕ × ℕ)) (piece : List ℕ × ℕ) → pieces_left (pieces ++ piece ∷ []) ≡ pieces_left pieces + (length piece.0 + length piece.0 - 1)
pieces-last [] piece = omega arith
pieces-last (x ∷ pieces) piece = let rest = pieces-last pieces piece in omega arith

module _ (tree : VersionTree) (count : ℕ) where
  pub are-pushed : (pieces : List (List ℕ × ℕ)) (piece : List ℕ × ℕ) → ArePieces tree count pieces → IsPart tree count piece.0 → piece.1 + length piece.0 ≤ count → ArePieces tree count (pieces ++ piece ∷ [])
  are-pushed [] piece are is le = (is, le, tt)
  are-pushed (x ∷ pieces) piece are is le = (are.0, are.1, are-pushed pieces piece are.2 is le)

  -- the last piece, and those before it
  pub record Popped (pieces : List (List ℕ × ℕ)) (piece : List ℕ × ℕ) : Type 0 where
    pub are : ArePieces tree count pieces
    pub is : IsPart tree count piece.0
    pub within : piece.1 + length piece.0 ≤ count

  pub popped : (pieces : List (List ℕ × ℕ)) (piece : List ℕ × ℕ) → ArePieces tree count (pieces ++ piece ∷ []) → Popped pieces piece
  popped [] piece are = record { are = tt; is = are.0; within = are.1 }
  popped (x ∷ pieces) piece are = let rest = popped pieces piece are.2 in record { are = (are.0, are.1, rest.are); is = rest.is; within = rest.within }

module _ (tree : VersionTree) (sound : IsSoundTree tree) (p q : ℕ) (p_up_to_q : p ≤ q) (count : ℕ) (all : List ℕ) where
  pub leads-start : IsPart tree count all → length all ≤ count → Leads tree count p q all ((all, 0) ∷ []) [] [] 0
  leads-start is le = record { are_pieces = (is, omega arith, tt); leaf_list = refl; cut_list = refl; deepest_is = omega arith }

  pub leads-stop : (pieces : List (List ℕ × ℕ)) (part : List ℕ) (level : ℕ) (parts : List (List ℕ)) (cuts : List ℕ) (deepest : ℕ) → next_cut_of tree p q part ≡ None → Leads tree count p q all (pieces ++ (part, level) ∷ []) parts cuts deepest → Leads tree count p q all pieces (parts ++ part ∷ []) cuts (max deepest level)
  leads-stop pieces part level parts cuts deepest none leads =
      let is = cuts_of-whole tree sound p q p_up_to_q count part none in
      let leaf : leaves (cuts_of tree p q part) ≡ part ∷ [] = ap leaves is in
      let no_cut : cut_vids (cuts_of tree p q part) ≡ [] = ap cut_vids is in
      let flat : depth (cuts_of tree p q part) ≡ 0 = ap depth is in
      let deep = depth-last tree p q pieces (part, level) in
      let was = leads.deepest_is in
      record {
        are_pieces = (popped tree count pieces (part, level) leads.are_pieces).are;
        leaf_list = append_assoc parts (part ∷ []) (leaves_left tree p q pieces) ∙ ap (λ (ys : List (List ℕ)). parts ++ ys) (sym (leaves-last tree p q pieces (part, level) ∙ ap (λ (ys : List (List ℕ)). ys ++ leaves_left tree p q pieces) leaf)) ∙ leads.leaf_list;
        cut_list = ap (λ (ys : List ℕ). cuts ++ ys) (sym (cuts-last tree p q pieces (part, level) ∙ ap (λ (ys : List ℕ). ys ++ cuts_left tree p q pieces) no_cut)) ∙ leads.cut_list;
        deepest_is = omega arith;
      }

  pub leads-cut : (pieces : List (List ℕ × ℕ)) (part : List ℕ) (level : ℕ) (parts : List (List ℕ)) (cuts : List ℕ) (deepest vid : ℕ) → IsPart tree count part → Has (edges part) vid → level + length part ≤ count → next_cut_of tree p q part ≡ Some vid → Leads tree count p q all (pieces ++ (part, level) ∷ []) parts cuts deepest → Leads tree count p q all ((pieces ++ (lower tree vid part, level + 1) ∷ []) ++ (upper tree vid part, level + 1) ∷ []) parts (cuts ++ vid ∷ []) deepest
  leads-cut pieces part level parts cuts deepest vid is_part has within some leads =
      let is = cuts_of-cut tree sound p q p_up_to_q count part vid is_part has some in
      let two = sides tree sound count part vid is_part has in
      let short = shorter tree sound p q p_up_to_q count part vid is_part has in
      let shorter_above = short.above in
      let shorter_below = short.below in
      let above = upper tree vid part in
      let below = lower tree vid part in
      let a = cuts_of tree p q above in
      let b = cuts_of tree p q below in
      let less = pieces ++ (below, level + 1) ∷ [] in
      let leaf : leaves (cuts_of tree p q part) ≡ leaves a ++ leaves b = ap leaves is in
      let vids : cut_vids (cuts_of tree p q part) ≡ vid ∷ (cut_vids a ++ cut_vids b) = ap cut_vids is in
      let deep : depth (cuts_of tree p q part) ≡ suc (max (depth a) (depth b)) = ap depth is in
      let was = leads.deepest_is in
      let d0 = depth-last tree p q pieces (part, level) in
      let d1 = depth-last tree p q pieces (below, level + 1) in
      let d2 = depth-last tree p q less (above, level + 1) in
      let one : leaves_left tree p q (less ++ (above, level + 1) ∷ []) ≡ leaves_left tree p q (pieces ++ (part, level) ∷ []) =
      leaves-last tree p q less (above, level + 1) ∙ ap (λ (ys : List (List ℕ)). leaves a ++ ys) (leaves-last tree p q pieces (below, level + 1))
      ∙ sym (leaves-last tree p q pieces (part, level) ∙ ap (λ (ys : List (List ℕ)). ys ++ leaves_left tree p q pieces) leaf ∙ append_assoc (leaves a) (leaves b) (leaves_left tree p q pieces)) in
      let two_vids : vid ∷ cuts_left tree p q (less ++ (above, level + 1) ∷ []) ≡ cuts_left tree p q (pieces ++ (part, level) ∷ []) =
      ap (λ (ys : List ℕ). vid ∷ ys) (cuts-last tree p q less (above, level + 1) ∙ ap (λ (ys : List ℕ). cut_vids a ++ ys) (cuts-last tree p q pieces (below, level + 1)))
      ∙ sym (cuts-last tree p q pieces (part, level) ∙ ap (λ (ys : List ℕ). ys ++ cuts_left tree p q pieces) vids ∙ ap (λ (ys : List ℕ). vid ∷ ys) (append_assoc (cut_vids a) (cut_vids b) (cuts_left tree p q pieces))) in
      let before = (popped tree count pieces (part, level) leads.are_pieces).are in
      record {
        are_pieces = are-pushed tree count less (above, level + 1) (are-pushed tree count pieces (below, level + 1) before two.lower_part (omega arith)) two.upper_part (omega arith);
        leaf_list = ap (λ (ys : List (List ℕ)). parts ++ ys) one ∙ leads.leaf_list;
        cut_list = append_assoc cuts (vid ∷ []) (cuts_left tree p q (less ++ (above, level + 1) ∷ [])) ∙ ap (λ (ys : List ℕ). cuts ++ ys) two_vids ∙ leads.cut_list;
        deepest_is = omega arith;
      }

  -- what waits becomes less
  pub fewer-stop : (pieces : List (List ℕ × ℕ)) (part : List ℕ) (level : ℕ) → IsPart tree count part → pieces_left pieces < pieces_left (pieces ++ (part, level) ∷ [])
  fewer-stop pieces part level is = let some = is.some in let last = pieces-last pieces (part, level) in omega arith

  pub fewer-cut : (pieces : List (List ℕ × ℕ)) (part : List ℕ) (level vid : ℕ) → IsPart tree count part → Has (edges part) vid → pieces_left ((pieces ++ (lower tree vid part, level + 1) ∷ []) ++ (upper tree vid part, level + 1) ∷ []) < pieces_left (pieces ++ (part, level) ∷ [])
  fewer-cut pieces part level vid is has =
      let two = sides tree sound count part vid is has in
      let some_above = two.upper_part.some in
      let some_below = two.lower_part.some in
      let sum = two.lengths in
      let last = pieces-last pieces (part, level) in
      let one = pieces-last pieces (lower tree vid part, level + 1) in
      let other = pieces-last (pieces ++ (lower tree vid part, level + 1) ∷ []) (upper tree vid part, level + 1) in
      omega arith

-- what holds after four clauses of a success
pub on-ok : {T E A B C D Q : Type 0} (r : Result T E) → OnOk r A → OnOk r B → OnOk r C → OnOk r D → (A → B → C → D → Q) → OnOk r Q
on-ok (Ok x) a b c d f = f a b c d
on-ok (Err e) a b c d f = tt

-- the last piece of those that wait
pub pieces_of-last : (pieces : List Piece) (piece : Piece) → pieces_of (pieces ++ piece ∷ []) ≡ pieces_of pieces ++ piece_of piece ∷ []
pieces_of-last pieces piece = map_push piece_of pieces piece

-- cuts that were made one after another
module _ (tree : VersionTree) (sound : IsSoundTree tree) (p q : ℕ) (p_up_to_q : p ≤ q) (count : ℕ) where
  pub next-inside : (part cuts : List ℕ) → IsPart tree count part → AreNext tree p q part cuts → AreInside tree part cuts
  next-inside part [] is are = tt
  next-inside part (cut ∷ cuts) is are =
      let has = (cut-at tree sound p q p_up_to_q count part cut is are.0).inside in
      (has, next-inside (upper tree cut part) cuts (sides tree sound count part cut is has).upper_part are.1)

  pub lowers-long : (part cuts : List ℕ) → length (lowers tree part cuts) ≡ length cuts
  lowers-long part [] = refl
  lowers-long part (cut ∷ cuts) = ap suc (lowers-long (upper tree cut part) cuts)

  abbrev pub behind : List (List ℕ × ℕ) → List ℕ → ℕ → List ℕ → List (List ℕ × ℕ)
  behind pieces part level cuts = (pieces ++ waiting level (lowers tree part cuts)) ++ (left tree part cuts, level + length cuts) ∷ []

  behind-more : (pieces : List (List ℕ × ℕ)) (part : List ℕ) (level cut : ℕ) (cuts : List ℕ) → behind (pieces ++ (lower tree cut part, level + 1) ∷ []) (upper tree cut part) (level + 1) cuts ≡ behind pieces part level (cut ∷ cuts)
  behind-more pieces part level cut cuts =
      let deep : (level + 1) + length cuts ≡ level + suc (length cuts) = omega arith in
      rw (deep, append_assoc pieces ((lower tree cut part, level + 1) ∷ []) (waiting (level + 1) (lowers tree (upper tree cut part) cuts))) refl

  behind-none : (pieces : List (List ℕ × ℕ)) (part : List ℕ) (level : ℕ) → pieces ++ (part, level) ∷ [] ≡ behind pieces part level []
  behind-none pieces part level =
      let flat : level + 0 ≡ level = omega arith in
      rw (flat, append-nil pieces) refl

  pub leads-cuts : (all : List ℕ) (pieces : List (List ℕ × ℕ)) (part : List ℕ) (level : ℕ) (parts : List (List ℕ)) (made : List ℕ) (deepest : ℕ) (cuts : List ℕ) → IsPart tree count part → level + length part ≤ count → AreNext tree p q part cuts → Leads tree count p q all (pieces ++ (part, level) ∷ []) parts made deepest → Leads tree count p q all (behind pieces part level cuts) parts (made ++ cuts) deepest
  leads-cuts all pieces part level parts made deepest [] is within are leads = rw (append-nil made) (subst (λ (ps : List (List ℕ × ℕ)). Leads tree count p q all ps parts made deepest) (behind-none pieces part level) leads)
  leads-cuts all pieces part level parts made deepest (cut ∷ cuts) is within are leads =
      let has = (cut-at tree sound p q p_up_to_q count part cut is are.0).inside in
      let two = sides tree sound count part cut is has in
      let some = two.lower_part.some in
      let sum = two.lengths in
      let one = leads-cut tree sound p q p_up_to_q count all pieces part level parts made deepest cut is has within are.0 leads in
      let rest = leads-cuts all (pieces ++ (lower tree cut part, level + 1) ∷ []) (upper tree cut part) (level + 1) parts (made ++ cut ∷ []) deepest cuts two.upper_part (omega arith) are.1 one in
      let moved = subst (λ (ps : List (List ℕ × ℕ)). Leads tree count p q all ps parts ((made ++ cut ∷ []) ++ cuts) deepest) (behind-more pieces part level cut cuts) rest in
      subst (λ (vids : List ℕ). Leads tree count p q all (behind pieces part level (cut ∷ cuts)) parts vids deepest) (append_assoc made (cut ∷ []) cuts) moved

  few-cuts : (pieces : List (List ℕ × ℕ)) (part : List ℕ) (level : ℕ) (cuts : List ℕ) → IsPart tree count part → AreInside tree part cuts → pieces_left (behind pieces part level cuts) ≤ pieces_left (pieces ++ (part, level) ∷ [])
  few-cuts pieces part level [] is are = let same = ap pieces_left (behind-none pieces part level) in omega arith
  few-cuts pieces part level (cut ∷ cuts) is are =
      let two = sides tree sound count part cut is are.0 in
      let one = fewer-cut tree sound p q p_up_to_q count [] pieces part level cut is are.0 in
      let rest = few-cuts (pieces ++ (lower tree cut part, level + 1) ∷ []) (upper tree cut part) (level + 1) cuts two.upper_part are.1 in
      let same = ap pieces_left (behind-more pieces part level cut cuts) in
      omega arith

  pub fewer-cuts : (pieces : List (List ℕ × ℕ)) (part : List ℕ) (level : ℕ) (cuts : List ℕ) → 0 < length cuts → IsPart tree count part → AreInside tree part cuts → pieces_left (behind pieces part level cuts) < pieces_left (pieces ++ (part, level) ∷ [])
  fewer-cuts pieces part level [] some is are = absurd (omega arith)
  fewer-cuts pieces part level (cut ∷ cuts) some is are =
      let two = sides tree sound count part cut is are.0 in
      let one = fewer-cut tree sound p q p_up_to_q count [] pieces part level cut is are.0 in
      let rest = few-cuts (pieces ++ (lower tree cut part, level + 1) ∷ []) (upper tree cut part) (level + 1) cuts two.upper_part are.1 in
      let same = ap pieces_left (behind-more pieces part level cut cuts) in
      omega arith
