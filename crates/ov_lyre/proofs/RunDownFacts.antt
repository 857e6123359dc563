-- Sums that each version passes on to its tree parent, from the greatest vid down.
use Rattle.std.proofs.Common.{◌≡◌, ℕ, zero, suc, ◌+◌, ◌-◌, ◌<◌, ◌≤◌, cond, eqb, List, [], ◌∷◌, ◌++◌, length, take, drop, set, get_or, get_or-set_same, get_or-set_other, refl, sym, ◌∙◌, ap, subst, inl, inr, arith}
use Rattle.std.proofs.lemmas.Bool.{cases_Bool, cases_eq, eq-eqb, ne_eqb}
use Rattle.std.proofs.lemmas.List.{take_more, drop_more, take_all, drop_all, take-append-drop}
use Rattle.ov_graph.specs.Trees.{VersionTree, total}
use Rattle.ov_graph.specs.Splits.{Has, IsPart, edges, is_under, lower}
use Rattle.std.specs.List.{slice_index}
use Rattle.ov_lyre.specs.Sums.{Stands}
use Rattle.ov_lyre.proofs.PartFacts.{total-append, total-raised, le-total, total-filter-le, filter-append, filter-none, has-filter, has-left, has-right, has-cases, Round, round, part-at, edge-at, parents-has}
use Rattle.ov_lyre.proofs.UnderFacts.{IsSoundTree, under-self, under-smaller, under-parent}

-- The versions before the place at still wait: the sums of those under one of them make up its sum. The others are done.
pub record PassesOn (tree : VersionTree) (f g : ℕ → ℕ) (part : List ℕ) (at : ℕ) : Type 0 where
  pub within : at ≤ length part
  pub waiting : (vid : ℕ) → Has (take at part) vid → total g (lower tree vid (take at part)) ≡ total f (lower tree vid part)
  pub done : (vid : ℕ) → Has (drop at part) vid → g vid ≡ total f (lower tree vid part)

pub passes-start : (tree : VersionTree) (f : ℕ → ℕ) (part : List ℕ) → PassesOn tree f f part (length part)
passes-start tree f part = record {
  within = omega arith;
  waiting = λ vid has. rw (take_all (length part) part (omega arith)) refl;
  done = λ vid has. absurd (let h = rw (drop_all (length part) part (omega arith)) at has in h);
}

one-under : (tree : VersionTree) (g : ℕ → ℕ) (vid y : ℕ) → total g (lower tree vid (y ∷ [])) ≡ cond (is_under tree vid y) (g y) 0
one-under tree g vid y =
    elim (cases_Bool (is_under tree vid y)) [ inl under ↦ rw under (omega arith) | inr apart ↦ rw apart refl ]

-- what stands before a later version of a part, and behind it
module _ (tree : VersionTree) (sound : IsSoundTree tree) (count : ℕ) (part : List ℕ) (is : IsPart tree count part) (at : ℕ) (later : 0 < at) (there : at < length part) where
  pub around : Round 0 count (take at part) (get_or part at 0) (drop (at + 1) part)
  around = round 0 count (take at part) (get_or part at 0) (drop (at + 1) part) (rw (sym (drop_more part at 0 there), take-append-drop at part) is.ascends)

  -- the tree parent stands before it
  pub parent-there : Has (take at part) (tree.parent (get_or part at 0))
  parent-there =
      let y = get_or part at 0 in
      let low = sound.lower y in
      let above = (part-at tree count part is at there).above in
      let has : Has part (tree.parent y) = parents-has tree part (edges part) y is.connected (edge-at part at later there) in
      let split : Has (take at part ++ (y ∷ drop (at + 1) part)) (tree.parent y) = rw (sym (drop_more part at 0 there), take-append-drop at part) has in
      elim (has-cases (take at part) (y ∷ drop (at + 1) part) (tree.parent y) split) [
        | inl front ↦ front
        | inr behind ↦ absurd (back behind (omega arith))
      ]
    where
      back : Has (get_or part at 0 ∷ drop (at + 1) part) (tree.parent (get_or part at 0)) → tree.parent (get_or part at 0) < get_or part at 0 → ⊥
      back (inl same) lt = omega arith
      back (inr has) lt = let more = around.after (tree.parent (get_or part at 0)) has in omega arith

module _ (tree : VersionTree) (sound : IsSoundTree tree) (count : ℕ) (f g : ℕ → ℕ) (part : List ℕ) (is : IsPart tree count part) (at : ℕ) (later : 0 < at) (passes : PassesOn tree f g part (at + 1)) where
  abbrev y : ℕ
  y = get_or part at 0

  abbrev ys : List ℕ
  ys = take at part

  abbrev zs : List ℕ
  zs = drop (at + 1) part

  there : at < length part
  there = let w = passes.within in omega arith

  near : Round 0 count ys y zs
  near = around tree sound count part is at later there

  parent : Has ys (tree.parent y)
  parent = parent-there tree sound count part is at later there

  -- what is passed on to the parent
  abbrev pub IsPassed : (ℕ → ℕ) → Type 0
  IsPassed h = (h (tree.parent y) ≡ g (tree.parent y) + g y) × ((x : ℕ) → (x ≡ tree.parent y → ⊥) → h x ≡ g x)

  pub passes-more : (h : ℕ → ℕ) → IsPassed h → PassesOn tree f h part at
  passes-more h passed =
      let low = sound.lower y in
      let above = (part-at tree count part is at there).above in
      let more : take (at + 1) part ≡ ys ++ y ∷ [] = take_more part at 0 there in
      let split : (vid : ℕ) → total g (lower tree vid (take (at + 1) part)) ≡ total g (lower tree vid ys) + cond (is_under tree vid y) (g y) 0 =
      (λ vid. ap (λ (xs : List ℕ). total g (lower tree vid xs)) more ∙ ap (total g) (filter-append (λ version. is_under tree vid version) ys (y ∷ [])) ∙ total-append g (lower tree vid ys) (lower tree vid (y ∷ [])) ∙ ap (λ n. total g (lower tree vid ys) + n) (one-under tree g vid y)) in
      record {
        within = omega arith;
        waiting = λ vid has.
            let before = near.before vid has in
            let old = passes.waiting vid (rw more (has-left ys (y ∷ []) vid has)) in
            let same : is_under tree vid y ≡ is_under tree vid (tree.parent y) = under-parent tree sound vid y (omega arith) (λ e. absurd (omega arith)) in
            total-raised (λ version. is_under tree vid version) g h (tree.parent y) (g y) passed.0 passed.1 0 count ys near.front parent
            ∙ (rw (sym same) (sym (split vid))) ∙ old;
        done = λ vid has. finished vid (rw (drop_more part at 0 there) at has) split low above;
      }
    where
      own : ((vid : ℕ) → total g (lower tree vid (take (at + 1) part)) ≡ total g (lower tree vid ys) + cond (is_under tree vid y) (g y) 0) → tree.parent y ≤ y - 1 → 0 < y → h y ≡ total f (lower tree y part)
      own split low above =
          let none : lower tree y ys ≡ [] = filter-none (λ version. is_under tree y version) ys (λ x has. under-smaller tree sound y x (near.before x has)) in
          let old = passes.waiting y (rw (take_more part at 0 there) (has-right ys (y ∷ []) y (inl refl))) in
          let here : total g (lower tree y ys) + cond (is_under tree y y) (g y) 0 ≡ g y = rw (none, under-self tree sound y) (omega arith) in
          passed.1 y (λ e. absurd (omega arith)) ∙ sym here ∙ sym (split y) ∙ old

      finished : (vid : ℕ) → Has (y ∷ zs) vid → ((vid : ℕ) → total g (lower tree vid (take (at + 1) part)) ≡ total g (lower tree vid ys) + cond (is_under tree vid y) (g y) 0) → tree.parent y ≤ y - 1 → 0 < y → h vid ≡ total f (lower tree vid part)
      finished vid (inl same) split low above = rw (sym same) (own split low above)
      finished vid (inr has) split low above = let more = near.after vid has in passed.1 vid (λ e. absurd (omega arith)) ∙ passes.done vid has

  -- what is written fits
  pub passes-fit : g (tree.parent y) + g y ≤ total f part
  passes-fit =
      let z = tree.parent y in
      let h : ℕ → ℕ = λ x. cond (eqb x z) (g z + g y) (g x) in
      let at_z : h z ≡ g z + g y = rw (eq-eqb z z refl) refl in
      let next = passes-more h (at_z, λ x other. rw (ne_eqb x z other) refl) in
      let sum = next.waiting z parent in
      let inside = le-total h (lower tree z ys) z (has-filter (λ version. is_under tree z version) ys z parent (under-self tree sound z)) in
      let whole = total-filter-le f (λ version. is_under tree z version) part in
      omega (arith, sum, inside, whole, at_z)

pub passes-all : (tree : VersionTree) (sound : IsSoundTree tree) (f g : ℕ → ℕ) (part : List ℕ) (at : ℕ) → at ≤ 1 → PassesOn tree f g part at → (vid : ℕ) → Has part vid → g vid ≡ total f (lower tree vid part)
passes-all tree sound f g part zero le passes vid has = passes.done vid has
passes-all tree sound f g part (suc (suc at)) le passes vid has = absurd (omega arith)
passes-all tree sound f g [] (suc zero) le passes vid has = absurd has
passes-all tree sound f g (top ∷ rest) (suc zero) le passes vid (inr has) = passes.done vid has
passes-all tree sound f g (top ∷ rest) (suc zero) le passes vid (inl same) =
    let alone : total g (lower tree top (top ∷ [])) ≡ g top = one-under tree g top top ∙ rw (under-self tree sound top) refl in
    let P : ℕ → Type 0 = λ v. g v ≡ total f (lower tree v (top ∷ rest)) in
    subst P same (sym alone ∙ passes.waiting top (inl refl))

-- what a write at the parent's place leaves
pub set-passed : (sums : List ℕ) (z at y : ℕ) → at ≡ z → z < length sums → (slice_index (set sums at (slice_index sums at + slice_index sums y)) z ≡ slice_index sums z + slice_index sums y) × ((x : ℕ) → (x ≡ z → ⊥) → slice_index (set sums at (slice_index sums at + slice_index sums y)) x ≡ slice_index sums x)
set-passed sums z at y is lt =
    rw is (get_or-set_same sums z (slice_index sums z + slice_index sums y) 0 lt, λ x other. get_or-set_other sums z x (slice_index sums z + slice_index sums y) 0 other)

-- one more version is written
pub stands-more : (f : ℕ → ℕ) (part sums : List ℕ) (k b : ℕ) → k < length part → Stands f (take k part) sums → b ≡ f (get_or part k 0) → get_or part k 0 < length sums → Stands f (take (k + 1) part) (set sums (get_or part k 0) b)
stands-more f part sums k b lt stands is within vid has =
    let y = get_or part k 0 in
    elim (cases_eq vid y) [
      | inl same ↦ rw same (get_or-set_same sums y b 0 within ∙ is)
      | inr other ↦
          elim (has-cases (take k part) (y ∷ []) vid (rw (take_more part k 0 lt) at has)) [
            | inl before ↦ get_or-set_other sums y vid b 0 other ∙ stands vid before
            | inr last ↦ absurd (only y last other)
          ]
    ]
  where
    only : (y : ℕ) → Has (y ∷ []) vid → (vid ≡ y → ⊥) → ⊥
    only y (inl same) other = other (sym same)
    only y (inr none) other = none
