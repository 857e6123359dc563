-- The cuts of a part, a level at a time.
use Rattle.std.proofs.Common.{◌≡◌, ℕ, zero, suc, max, ◌-◌, ◌+◌, ◌<◌, Some, None, List, [], ◌∷◌, ◌++◌, refl, sym, ap, ◌∙◌, append_assoc, length, arith}
use Rattle.std.proofs.lemmas.List.FromFn.{length-range_with_len}
use Rattle.ov_graph.specs.declared.nodes.Node.{Node}
use Rattle.ov_graph.specs.Trees.{VersionTree, tree_of, vids}
use Rattle.ov_graph.specs.Splits.{upper, lower, next_cut_of, cuts_within, cuts_of, leaves, cut_vids, depth, split_of}
use Rattle.ov_graph.specs.Splits.Cuts.{whole, cut}

module _ (tree : VersionTree) (p q : ℕ) (part : List ℕ) where
  pub within-zero : (levels : ℕ) → levels ≡ 0 → cuts_within levels tree p q part ≡ whole part
  unfolding cuts_within
  within-zero levels e = rw (e, cuts_within) refl

  pub within-whole : (levels : ℕ) → next_cut_of tree p q part ≡ None → cuts_within levels tree p q part ≡ whole part
  unfolding cuts_within
  within-whole zero e = refl
  within-whole (suc levels) e = rw (e, cuts_within) refl

  pub within-cut : (levels : ℕ) (vid : ℕ) → 0 < levels → next_cut_of tree p q part ≡ Some vid → cuts_within levels tree p q part ≡ cut vid (cuts_within (levels - 1) tree p q (upper tree vid part)) (cuts_within (levels - 1) tree p q (lower tree vid part))
  unfolding cuts_within
  within-cut zero vid some e = absurd (omega arith)
  within-cut (suc levels) vid some e = let back : suc levels - 1 ≡ levels = omega arith in rw (back, e, cuts_within) refl

  -- what is found behind what was found before, of the upper part first and then of the lower one
  module _ (levels vid : ℕ) (some : 0 < levels) (next : next_cut_of tree p q part ≡ Some vid) (above below : List ℕ) (is_above : above ≡ upper tree vid part) (is_below : below ≡ lower tree vid part) where
    pub parts-after : (old mid new : List (List ℕ)) → mid ≡ old ++ leaves (cuts_within (levels - 1) tree p q above) → new ≡ mid ++ leaves (cuts_within (levels - 1) tree p q below) → new ≡ old ++ leaves (cuts_within levels tree p q part)
    parts-after old mid new one two =
        let a = leaves (cuts_within (levels - 1) tree p q (upper tree vid part)) in
        let b = leaves (cuts_within (levels - 1) tree p q (lower tree vid part)) in
        let first : mid ≡ old ++ a = rw (sym is_above) one in
        let second : new ≡ mid ++ b = rw (sym is_below) two in
        rw (within-cut levels vid some next) (second ∙ ap (λ (xs : List (List ℕ)). xs ++ b) first ∙ append_assoc old a b)

    pub cuts-after : (old mid new : List ℕ) → mid ≡ (old ++ vid ∷ []) ++ cut_vids (cuts_within (levels - 1) tree p q above) → new ≡ mid ++ cut_vids (cuts_within (levels - 1) tree p q below) → new ≡ old ++ cut_vids (cuts_within levels tree p q part)
    cuts-after old mid new one two =
        let a = cut_vids (cuts_within (levels - 1) tree p q (upper tree vid part)) in
        let b = cut_vids (cuts_within (levels - 1) tree p q (lower tree vid part)) in
        let first : mid ≡ (old ++ vid ∷ []) ++ a = rw (sym is_above) one in
        let second : new ≡ mid ++ b = rw (sym is_below) two in
        rw (within-cut levels vid some next) (second ∙ ap (λ (xs : List ℕ). xs ++ b) first ∙ append_assoc (old ++ vid ∷ []) a b ∙ append_assoc old (vid ∷ []) (a ++ b))

    pub depth-after : (one two deep : ℕ) → one ≡ depth (cuts_within (levels - 1) tree p q above) → two ≡ depth (cuts_within (levels - 1) tree p q below) → deep ≡ max one two → deep + 1 ≡ depth (cuts_within levels tree p q part)
    depth-after one two deep is_one is_two is =
        let a = depth (cuts_within (levels - 1) tree p q (upper tree vid part)) in
        let b = depth (cuts_within (levels - 1) tree p q (lower tree vid part)) in
        let first : one ≡ a = rw (sym is_above) is_one in
        let second : two ≡ b = rw (sym is_below) is_two in
        rw (within-cut levels vid some next) (omega arith)

-- the split of a whole tree has as many levels as there are versions
pub whole-tree : (nodes given : List Node) (whole : List ℕ) (count p q : ℕ) → given ≡ nodes → whole ≡ vids (length nodes) → count ≡ length nodes → cuts_within count (tree_of given) p q whole ≡ split_of nodes p q
unfolding cuts_of
whole-tree nodes given all count p q is_given is_all is_count = rw (is_given, is_all, is_count, length-range_with_len 1 (length nodes)) refl
