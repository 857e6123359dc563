-- A split divides a tree: each version is in one part, and each part stops.
use Rattle.std.proofs.Common.{◌≡◌, ℕ, ◌+◌, ◌<◌, ◌≤◌, Bool, true, false, not, cond, ◌&&◌, eqb, List, [], ◌∷◌, length, filter, refl, ◌∙◌, subst, inl, inr, arith}
use Rattle.std.specs.Prelude.{Vec, count_by}
use Rattle.std.specs.declared.alloc.Global.{Global}
use Rattle.std.specs.List.{All}
use Rattle.std.specs.List.Sorted.{IsPermutation}
use Rattle.std.proofs.lemmas.Bool.{cases_Bool, eqb-true, eq-eqb, or_left, or_right}
use Rattle.std.proofs.lemmas.List.Elements.{All-nil, All-cons, All-append}
use Rattle.std.proofs.lemmas.List.Sums.{sum_by-cons, sum_by-append}
use Rattle.std.proofs.lemmas.List.Sorted.{sum_by-IsPermutation, IsPermutation-map, All-permutation}
use Rattle.ov_graph.specs.declared.nodes.Node.{Node}
use Rattle.ov_graph.specs.Trees.{VersionTree, IsSound, tree_of, vids}
use Rattle.ov_graph.specs.Splits.{Has, IsPart, stops, is_under, lower, upper, Cuts, cuts_of, leaves, has_vid, IsDivision}
use Rattle.ov_graph.specs.Splits.Cuts.{whole, cut}
use Rattle.ov_lyre.specs.Parts.{lists_of}
use Rattle.ov_lyre.proofs.UnderFacts.{IsSoundTree}
use Rattle.ov_lyre.proofs.NodeFacts.{sound-tree}
use Rattle.ov_lyre.proofs.CutsFacts.{split-all}
use Rattle.ov_lyre.proofs.LawFacts.{vids-IsPart, has-vid}

has_vid-filter : (p : ℕ → Bool) (vid : ℕ) (xs : List ℕ) → has_vid (filter p xs) vid ≡ (has_vid xs vid && p vid)
has_vid-filter p vid [] = refl
has_vid-filter p vid (x ∷ xs) =
    let rest = has_vid-filter p vid xs in
    elim (cases_Bool (eqb x vid)) [
      | inl same ↦
          let is = eqb-true x vid same in
          elim (cases_Bool (p x)) [
            | inl kept ↦ let kept_vid : p vid ≡ true = rw is at kept in rw (kept, same, kept_vid) refl
            | inr left ↦ let left_vid : p vid ≡ false = rw is at left in rw (left, same, left_vid) (rest ∙ rw left_vid (and_false (has_vid xs vid)))
          ]
      | inr other ↦
          elim (cases_Bool (p x)) [
            | inl kept ↦ rw (kept, other) rest
            | inr left ↦ rw (left, other) rest
          ]
    ]
  where
    and_false : (b : Bool) → (b && false) ≡ false
    and_false true = refl
    and_false false = refl

-- a version is on one side of a cut
on-one-side : (has under : Bool) → cond (has && not under) 1 0 + cond (has && under) 1 0 ≡ cond has 1 0
on-one-side true true = refl
on-one-side true false = refl
on-one-side false true = refl
on-one-side false false = refl

module _ (tree : VersionTree) (sound : IsSoundTree tree) (p q : ℕ) (p_up_to_q : p ≤ q) (count : ℕ) where
  record Divides (part : List ℕ) (cuts : Cuts) : Type 0 where
    each : (vid : ℕ) → count_by (λ other. has_vid other vid) (leaves cuts) ≡ cond (has_vid part vid) 1 0
    parts : All (IsPart tree count) (leaves cuts)
    stopped : All (λ other. stops tree p q other ≡ true) (leaves cuts)

  divides-stop : (part : List ℕ) → IsPart tree count part → stops tree p q part ≡ true → Divides part (whole part)
  divides-stop part is stop = record {
    each = λ vid. sum_by-cons (λ other. cond (has_vid other vid) 1 0) part [] ∙ omega arith;
    parts = All-cons (IsPart tree count) part [] is (All-nil (IsPart tree count));
    stopped = All-cons (λ other. stops tree p q other ≡ true) part [] stop (All-nil (λ other. stops tree p q other ≡ true));
  }

  divides-cut : (part : List ℕ) (vid : ℕ) (above below : Cuts) → Divides (upper tree vid part) above → Divides (lower tree vid part) below → Divides part (cut vid above below)
  divides-cut part vid above below one two = record {
    each = λ version.
        sum_by-append (λ other. cond (has_vid other version) 1 0) (leaves above) (leaves below)
        ∙ rw (one.each version, two.each version, has_vid-filter (λ v. not (is_under tree vid v)) version part, has_vid-filter (λ v. is_under tree vid v) version part) (on-one-side (has_vid part version) (is_under tree vid version));
    parts = All-append (IsPart tree count) (leaves above) (leaves below) one.parts two.parts;
    stopped = All-append (λ other. stops tree p q other ≡ true) (leaves above) (leaves below) one.stopped two.stopped;
  }

  divides : (part : List ℕ) → IsPart tree count part → Divides part (cuts_of tree p q part)
  divides = split-all tree sound p q p_up_to_q count Divides (λ part is stop e. divides-stop part is stop) (λ part vid above below is at e one two. divides-cut part vid above below one two)

has_vid-from : (xs : List ℕ) (vid : ℕ) → Has xs vid → has_vid xs vid ≡ true
has_vid-from [] vid has = absurd has
has_vid-from (x ∷ xs) vid (inl same) = or_left (eqb x vid) (has_vid xs vid) (eq-eqb x vid same)
has_vid-from (x ∷ xs) vid (inr has) = or_right (eqb x vid) (has_vid xs vid) (has_vid-from xs vid has)

pub found-division : (nodes : List Node) (sound : IsSound nodes) (filled : 0 < length nodes) (p q : ℕ) (p_up_to_q : p ≤ q) (xs ys : List (Vec ℕ Global)) → lists_of xs ≡ leaves (cuts_of (tree_of nodes) p q (vids (length nodes))) → IsPermutation xs ys → IsDivision nodes p q (lists_of ys)
found-division nodes sound filled p q p_up_to_q xs ys is moved =
    let tree = tree_of nodes in
    let count = length nodes in
    let all = divides tree (sound-tree nodes sound) p q p_up_to_q count (vids count) (vids-IsPart nodes sound filled) in
    let lists : IsPermutation (leaves (cuts_of tree p q (vids count))) (lists_of ys) =
    (let P : List (List ℕ) → Type 0 = λ parts. IsPermutation parts (lists_of ys) in subst P is (IsPermutation-map (λ (part : Vec ℕ Global). part.items) xs ys moved)) in
    record {
      each_once = λ vid one le.
          let there = has_vid-from (vids count) vid (has-vid 1 count vid one (omega arith)) in
          sum_by-IsPermutation (λ part. cond (has_vid part vid) 1 0) (leaves (cuts_of tree p q (vids count))) (lists_of ys) lists
          ∙ all.each vid ∙ rw there refl;
      are_parts = All-permutation (IsPart tree count) (leaves (cuts_of tree p q (vids count))) (lists_of ys) lists all.parts;
      all_stop = All-permutation (λ part. stops tree p q part ≡ true) (leaves (cuts_of tree p q (vids count))) (lists_of ys) lists all.stopped;
    }
