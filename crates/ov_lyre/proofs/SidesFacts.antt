-- The side of each version behind cuts that were made one after another.
use Rattle.std.proofs.Common.{◌≡◌, ℕ, zero, suc, ◌+◌, ◌-◌, ◌<◌, ◌≤◌, Bool, true, false, not, cond, eqb, Result, Ok, Err, List, [], ◌∷◌, ◌++◌, length, filter, take, drop, get_or, set, get_or-set_same, get_or-set_other, refl, sym, ◌∙◌, ap, subst, inl, inr, arith}
use Rattle.std.specs.Prelude.{Vec}
use Rattle.std.specs.Result.{IfOk}
use Rattle.std.specs.declared.alloc.Global.{Global}
use Rattle.std.specs.List.{slice_index, All}
use Rattle.std.proofs.lemmas.List.Elements.{All-head, All-tail}
use Rattle.ov_lyre.specs.Parts.{lists_of}
use Rattle.std.proofs.lemmas.Bool.{cases_Bool, cases_eq, eq-eqb, ne_eqb, eqb-true}
use Rattle.std.proofs.lemmas.List.{drop_more, length-drop, length-map, map-set}
use Rattle.ov_graph.specs.Trees.{VersionTree}
use Rattle.ov_graph.specs.Splits.{Has, IsPart, edges, is_under, lower, upper}
use Rattle.ov_lyre.specs.Sums.{Stands}
use Rattle.ov_lyre.specs.Sides.{left, lowers, AreInside, number_of, cut_over, numbered, AreNumbered}
use Rattle.ov_lyre.proofs.PartFacts.{lies, edge-has, filter-has, part-at, edge-at, filter-push, filter-skip}
use Rattle.ov_lyre.proofs.RunDownFacts.{around, parent-there, stands-more}
use Rattle.ov_lyre.proofs.UnderFacts.{IsSoundTree, under-self, under-smaller, under-parent}
use Rattle.ov_lyre.proofs.CutFacts.{sides}
use Rattle.ov_lyre.proofs.PeelFacts.{filters-same}
use Rattle.ov_lyre.proofs.PeelingFacts.{stay-edge}

-- filters that agree on a list
pub filter-agrees : (p q : ℕ → Bool) (xs : List ℕ) → ((x : ℕ) → Has xs x → p x ≡ q x) → filter p xs ≡ filter q xs
filter-agrees p q [] same = refl
filter-agrees p q (x ∷ xs) same =
    let rest = filter-agrees p q xs (λ y has. same y (inr has)) in
    let here = same x (inl refl) in
    elim (cases_Bool (q x)) [
      | inl kept ↦ rw (here ∙ kept, kept) (ap (λ (ys : List ℕ). x ∷ ys) rest)
      | inr skipped ↦ rw (here ∙ skipped, skipped) rest
    ]

module _ (tree : VersionTree) (sound : IsSoundTree tree) (count : ℕ) where
  -- no cut of a part has a vid that isn't in the part
  pub number-none : (part cuts : List ℕ) (vid : ℕ) → AreInside tree part cuts → (Has part vid → ⊥) → number_of cuts vid ≡ 0
  number-none part [] vid are out = refl
  number-none part (cut ∷ cuts) vid are out =
      elim (cases_eq vid cut) [
        | inl same ↦ absurd (out (edge-has part vid (subst (λ (v : ℕ). Has (edges part) v) (sym same) are.0)))
        | inr other ↦ rw (ne_eqb vid cut other) (number-none (upper tree cut part) cuts vid are.1 (λ has. out (filter-has (λ version. not (is_under tree cut version)) part vid has).has))
      ]

  -- a cut has the number of its vid, another version that of its tree parent
  pub over-parent : (part cuts : List ℕ) (vid : ℕ) → IsPart tree count part → AreInside tree part cuts → Has (edges part) vid → 0 < vid → cut_over tree cuts vid ≡ cond (eqb (number_of cuts vid) 0) (cut_over tree cuts (tree.parent vid)) (number_of cuts vid)
  over-parent part [] vid is are has above = refl
  over-parent part (cut ∷ cuts) vid is are has above =
      elim (cases_eq vid cut) [
        | inl same ↦ rw (eq-eqb vid cut same) (rw same (rw (under-self tree sound cut, ne_eqb (suc (length cuts)) 0 (λ e. absurd (omega arith))) refl))
        | inr other ↦
            let parent = under-parent tree sound cut vid above other in
            elim (cases_Bool (is_under tree cut vid)) [
              | inl under ↦
                  let none = number-none (upper tree cut part) cuts vid are.1 (λ there. (let h = (filter-has (λ version. not (is_under tree cut version)) part vid there).passes in let g = rw under at h in cc)) in
                  rw (ne_eqb vid cut other, none, under, sym parent ∙ under) refl
              | inr apart ↦
                  let rest = over-parent (upper tree cut part) cuts vid (sides tree sound count part cut is are.0).upper_part are.1 (stay-edge tree sound count cut vid part is are.0 has apart) above in
                  rw (ne_eqb vid cut other, apart, sym parent ∙ apart) rest
            ]
      ]

  -- the topmost version lies under no cut, and is none
  pub record IsTopmost (cuts : List ℕ) (top : ℕ) : Type 0 where
    pub over : cut_over tree cuts top ≡ 0
    pub number : number_of cuts top ≡ 0

  pub topmost : (top : ℕ) (rest cuts : List ℕ) → IsPart tree count (top ∷ rest) → AreInside tree (top ∷ rest) cuts → IsTopmost cuts top
  topmost top rest [] is are = record { over = refl; number = refl }
  topmost top rest (cut ∷ cuts) is are =
      let above = (lies top count rest cut is.ascends.2 are.0).above in
      let apart : is_under tree cut top ≡ false = under-smaller tree sound cut top above in
      let upper_is : upper tree cut (top ∷ rest) ≡ top ∷ upper tree cut rest = rw apart refl in
      let upper_part = subst (λ (xs : List ℕ). IsPart tree count xs) upper_is (sides tree sound count (top ∷ rest) cut is are.0).upper_part in
      let inside = subst (λ (xs : List ℕ). AreInside tree xs cuts) upper_is are.1 in
      let later = topmost top (upper tree cut rest) cuts upper_part inside in
      record { over = rw apart later.over; number = rw (ne_eqb top cut (λ e. absurd (omega arith))) later.number }

module _ (tree : VersionTree) where
  pub over-few : (cuts : List ℕ) (vid : ℕ) → cut_over tree cuts vid ≤ length cuts
  over-few [] vid = omega arith
  over-few (cut ∷ cuts) vid =
      let rest = over-few cuts vid in
      elim (cases_Bool (is_under tree cut vid)) [ inl under ↦ rw under (omega arith) | inr apart ↦ rw apart (omega arith) ]

  not-is : (b : Bool) → not b ≡ true → b ≡ false
  not-is true e = cc
  not-is false e = refl

  -- the versions of a number below that of the first cut stand above that cut
  later : (part cuts : List ℕ) (cut n : ℕ) → n < suc (length cuts) → filter (λ vid. eqb (cut_over tree (cut ∷ cuts) vid) n) part ≡ filter (λ vid. eqb (cut_over tree cuts vid) n) (upper tree cut part)
  later part cuts cut n less =
      sym (filters-same (λ vid. eqb (cut_over tree (cut ∷ cuts) vid) n) (λ vid. not (is_under tree cut vid)) part (λ vid has passes. (elim (cases_Bool (is_under tree cut vid)) [
        | inl under ↦ let h = rw under at passes in let e = eqb-true (suc (length cuts)) n h in absurd (omega arith)
        | inr apart ↦ ap not apart
      ])))
      ∙ filter-agrees (λ vid. eqb (cut_over tree (cut ∷ cuts) vid) n) (λ vid. eqb (cut_over tree cuts vid) n) (upper tree cut part) (λ vid has.
      rw (not-is (is_under tree cut vid) (filter-has (λ version. not (is_under tree cut version)) part vid has).passes) refl)

  pub left-over : (part cuts : List ℕ) → filter (λ vid. eqb (cut_over tree cuts vid) 0) part ≡ left tree part cuts
  left-over part [] = all part
    where
      all : (xs : List ℕ) → filter (λ vid. eqb 0 0) xs ≡ xs
      all [] = refl
      all (x ∷ xs) = ap (λ (ys : List ℕ). x ∷ ys) (all xs)
  left-over part (cut ∷ cuts) = later part cuts cut 0 (omega arith) ∙ left-over (upper tree cut part) cuts

  -- those of the first cut's number are its lower side
  first : (part cuts : List ℕ) (cut : ℕ) → filter (λ vid. eqb (cut_over tree (cut ∷ cuts) vid) (suc (length cuts))) part ≡ lower tree cut part
  first part cuts cut =
      filter-agrees (λ vid. eqb (cut_over tree (cut ∷ cuts) vid) (suc (length cuts))) (λ vid. is_under tree cut vid) part (λ vid has. (elim (cases_Bool (is_under tree cut vid)) [
        | inl under ↦ rw under (eq-eqb (suc (length cuts)) (suc (length cuts)) refl)
        | inr apart ↦ let few = over-few cuts vid in rw apart (ne_eqb (cut_over tree cuts vid) (suc (length cuts)) (λ e. absurd (omega arith)))
      ]))

  pub lowers-over : (part cuts : List ℕ) (lists : List (List ℕ)) → length lists ≡ length cuts → ((at : ℕ) → at < length cuts → get_or lists at [] ≡ filter (λ vid. eqb (cut_over tree cuts vid) (length cuts - at)) part) → lists ≡ lowers tree part cuts
  lowers-over part [] [] long each = refl
  lowers-over part [] (list ∷ lists) long each = absurd (omega arith)
  lowers-over part (cut ∷ cuts) [] long each = absurd (omega arith)
  lowers-over part (cut ∷ cuts) (list ∷ lists) long each =
      let all : suc (length cuts) - 0 ≡ suc (length cuts) = omega arith in
      let head : list ≡ lower tree cut part = subst (λ (n : ℕ). list ≡ filter (λ vid. eqb (cut_over tree (cut ∷ cuts) vid) n) part) all (each 0 (omega arith)) ∙ first part cuts cut in
      let tail = lowers-over (upper tree cut part) cuts lists (omega arith) (λ at lt.
      (let less : suc (length cuts) - suc at ≡ length cuts - at = omega arith in
      subst (λ (n : ℕ). get_or lists at [] ≡ filter (λ vid. eqb (cut_over tree (cut ∷ cuts) vid) n) part) less (each (suc at) (omega arith))) ∙ later part cuts cut (length cuts - at) (omega arith)) in
      rw (head, tail) refl

  -- what stands at the versions of a part decides their sides
  module _ (part cuts numbers : List ℕ) (stands : Stands (cut_over tree cuts) part numbers) where
    by-cut : (n : ℕ) → numbered numbers n part ≡ filter (λ vid. eqb (cut_over tree cuts vid) n) part
    by-cut n = filter-agrees (λ vid. eqb (slice_index numbers vid) n) (λ vid. eqb (cut_over tree cuts vid) n) part (λ vid has. ap (λ (m : ℕ). eqb m n) (stands vid has))

    pub left-is : numbered numbers 0 part ≡ left tree part cuts
    left-is = by-cut 0 ∙ left-over part cuts

    pub lowers-are : (lists : List (List ℕ)) → length lists ≡ length cuts → AreNumbered (length cuts) numbers part lists → lists ≡ lowers tree part cuts
    lowers-are lists long are = lowers-over part cuts lists long (λ at lt. are at lt ∙ by-cut (length cuts - at))

-- the number of one more cut is written
pub numbers-more : (part cuts numbers : List ℕ) (at : ℕ) → at < length cuts → get_or cuts at 0 < length numbers → Stands (number_of (drop (at + 1) cuts)) part numbers → Stands (number_of (drop at cuts)) part (set numbers (get_or cuts at 0) (length cuts - at))
numbers-more part cuts numbers at lt inside stands vid has =
    let cut = get_or cuts at 0 in
    let more : number_of (drop at cuts) vid ≡ number_of (cut ∷ drop (at + 1) cuts) vid = ap (λ (cs : List ℕ). number_of cs vid) (drop_more cuts at 0 lt) in
    let long : length (drop (at + 1) cuts) ≡ length cuts - (at + 1) = length-drop (at + 1) cuts in
    elim (cases_eq vid cut) [
      | inl same ↦
          let count : length cuts - at ≡ suc (length (drop (at + 1) cuts)) = omega arith in
          rw same (get_or-set_same numbers cut (length cuts - at) 0 inside ∙ count ∙ sym (subst (λ (v : ℕ). number_of (drop at cuts) v ≡ number_of (cut ∷ drop (at + 1) cuts) v) same more ∙ rw (eq-eqb cut cut refl) refl))
      | inr other ↦ get_or-set_other numbers cut vid (length cuts - at) 0 other ∙ stands vid has ∙ sym (more ∙ rw (ne_eqb vid cut other) refl)
    ]

-- the versions before a place have the numbers of their sides, the others those of cuts
pub record IsInherited (tree : VersionTree) (cuts part : List ℕ) (at : ℕ) (numbers : List ℕ) : Type 0 where
  pub done : Stands (cut_over tree cuts) (take at part) numbers
  pub waiting : Stands (number_of cuts) (drop at part) numbers

module _ (tree : VersionTree) (sound : IsSoundTree tree) (count : ℕ) where
  pub inherit-start : (cuts part numbers : List ℕ) → IsPart tree count part → AreInside tree part cuts → Stands (number_of cuts) part numbers → IsInherited tree cuts part 1 numbers
  inherit-start cuts [] numbers is are stands = let some = is.some in absurd (omega arith)
  inherit-start cuts (top ∷ rest) numbers is are stands =
      let first = topmost tree sound count top rest cuts is are in
      record {
        done = only (stands top (inl refl) ∙ first.number ∙ sym first.over);
        waiting = λ vid has. stands vid (inr has);
      }
    where
      only : slice_index numbers top ≡ cut_over tree cuts top → (vid : ℕ) → Has (top ∷ []) vid → slice_index numbers vid ≡ cut_over tree cuts vid
      only here vid (inl same) = subst (λ (v : ℕ). slice_index numbers v ≡ cut_over tree cuts v) same here
      only here vid (inr none) = absurd none

  pub inherit-more : (cuts part numbers : List ℕ) (at own above : ℕ) → IsPart tree count part → AreInside tree part cuts → 0 < at → at < length part → get_or part at 0 < length numbers → own ≡ slice_index numbers (get_or part at 0) → above ≡ slice_index numbers (tree.parent (get_or part at 0)) → IsInherited tree cuts part at numbers → IsInherited tree cuts part (at + 1) (set numbers (get_or part at 0) (cond (eqb own 0) above own))
  inherit-more cuts part numbers at own above is are later there within own_is above_is inherited =
      let vid = get_or part at 0 in
      let near = around tree sound count part is at later there in
      let lies_at = part-at tree count part is at there in
      let own_number : own ≡ number_of cuts vid = own_is ∙ inherited.waiting vid (rw (drop_more part at 0 there) (inl refl)) in
      let parent_over : above ≡ cut_over tree cuts (tree.parent vid) = above_is ∙ inherited.done (tree.parent vid) (parent-there tree sound count part is at later there) in
      let over = over-parent tree sound count part cuts vid is are (edge-at part at later there) lies_at.above in
      let is_over : cond (eqb own 0) above own ≡ cut_over tree cuts vid = rw (own_number, parent_over) (sym over) in
      record {
        done = stands-more (cut_over tree cuts) part numbers at (cond (eqb own 0) above own) there inherited.done is_over within;
        waiting = λ other has.
            let behind = near.after other has in
            get_or-set_other numbers vid other (cond (eqb own 0) above own) 0 (λ e. absurd (omega arith)) ∙ inherited.waiting other (rw (drop_more part at 0 there) (inr has));
      }

-- the versions before a place by their numbers
module _ (part numbers : List ℕ) (count : ℕ) where
  pub none-numbered : (parts : List (Vec ℕ Global)) → All (λ side. side.items ≡ []) parts → AreNumbered count numbers (take 0 part) (lists_of parts)
  none-numbered [] empty at lt = refl
  none-numbered (side ∷ parts) empty at lt = empty-at (side ∷ parts) empty at
    where
      empty-at : (sides : List (Vec ℕ Global)) → All (λ side. side.items ≡ []) sides → (at : ℕ) → get_or (lists_of sides) at [] ≡ []
      empty-at [] empty at = refl
      empty-at (side ∷ sides) empty zero = All-head (λ (v : Vec ℕ Global). v.items ≡ []) side sides empty
      empty-at (side ∷ sides) empty (suc at) = empty-at sides (All-tail (λ (v : Vec ℕ Global). v.items ≡ []) side sides empty) at

  module _ (k : ℕ) (there : k < length part) where
    abbrev vid_at : ℕ
    vid_at = get_or part k 0

    abbrev number_at : ℕ
    number_at = slice_index numbers vid_at

    pub above-skip : (found : List ℕ) → (number_at ≡ 0 → ⊥) → found ≡ numbered numbers 0 (take k part) → found ≡ numbered numbers 0 (take (k + 1) part)
    above-skip found some is = filter-skip (λ v. eqb (slice_index numbers v) 0) part found k there is (ne_eqb number_at 0 some)

    pub above-push : (found : List ℕ) → number_at ≡ 0 → found ≡ numbered numbers 0 (take k part) → found ++ vid_at ∷ [] ≡ numbered numbers 0 (take (k + 1) part)
    above-push found none is = filter-push (λ v. eqb (slice_index numbers v) 0) part found k there is (eq-eqb number_at 0 none)

    other-number : (lists : List (List ℕ)) (at : ℕ) → (number_at ≡ count - at → ⊥) → get_or lists at [] ≡ numbered numbers (count - at) (take k part) → get_or lists at [] ≡ numbered numbers (count - at) (take (k + 1) part)
    other-number lists at other is = filter-skip (λ v. eqb (slice_index numbers v) (count - at)) part (get_or lists at []) k there is (ne_eqb number_at (count - at) other)

    pub below-skip : (lists : List (List ℕ)) → number_at ≡ 0 → AreNumbered count numbers (take k part) lists → AreNumbered count numbers (take (k + 1) part) lists
    below-skip lists none are at lt = other-number lists at (λ e. absurd (omega arith)) (are at lt)

    pub below-push : (parts : List (Vec ℕ Global)) (side : Vec ℕ Global) → length parts ≡ count → (number_at ≡ 0 → ⊥) → number_at ≤ count → side.items ≡ get_or (lists_of parts) (count - number_at) [] ++ vid_at ∷ [] → AreNumbered count numbers (take k part) (lists_of parts) → AreNumbered count numbers (take (k + 1) part) (lists_of (set parts (count - number_at) side))
    below-push parts side long some within pushed are at lt =
        let place = count - number_at in
        let moved : lists_of (set parts place side) ≡ set (lists_of parts) place side.items = map-set (λ (v : Vec ℕ Global). v.items) parts place side in
        let many : length (lists_of parts) ≡ length parts = length-map parts (λ (v : Vec ℕ Global). v.items) in
        elim (cases_eq at place) [
          | inl same ↦
              let back : number_at ≡ count - at = omega arith in
              ap (λ (ls : List (List ℕ)). get_or ls at []) moved
              ∙ rw same (get_or-set_same (lists_of parts) place side.items [] (let n = some in omega arith) ∙ pushed
              ∙ filter-push (λ v. eqb (slice_index numbers v) (count - place)) part (get_or (lists_of parts) place []) k there (are place (let n = some in omega arith)) (eq-eqb number_at (count - place) (omega arith)))
          | inr other ↦
              ap (λ (ls : List (List ℕ)). get_or ls at []) moved ∙ get_or-set_other (lists_of parts) place at side.items [] other
              ∙ other-number (lists_of parts) at (λ e. other (omega arith)) (are at lt)
        ]

module _ (tree : VersionTree) (sound : IsSoundTree tree) (count : ℕ) where
  -- each cut takes a version off
  pub cuts-few : (part cuts : List ℕ) → IsPart tree count part → AreInside tree part cuts → length cuts < length part
  cuts-few part [] is are = is.some
  cuts-few part (cut ∷ cuts) is are =
      let two = sides tree sound count part cut is are.0 in
      let some = two.lower_part.some in
      let sum = two.lengths in
      let rest = cuts-few (upper tree cut part) cuts two.upper_part are.1 in
      omega arith

-- cuts are versions of the part
pub cut-has : (tree : VersionTree) (part cuts : List ℕ) (vid : ℕ) → AreInside tree part cuts → Has cuts vid → Has part vid
cut-has tree part [] vid are has = absurd has
cut-has tree part (cut ∷ cuts) vid are (inl same) = subst (λ (v : ℕ). Has part v) same (edge-has part cut are.0)
cut-has tree part (cut ∷ cuts) vid are (inr has) = (filter-has (λ version. not (is_under tree cut version)) part vid (cut-has tree (upper tree cut part) cuts vid are.1 has)).has

-- two clauses of a success as one
pub ok-both : {T E : Type 0} (r : Result T E) (P Q : T → Type 0) → IfOk r P → IfOk r Q → IfOk r (λ x. P x × Q x)
ok-both (Ok x) P Q p q = (p, q)
ok-both (Err e) P Q p q = tt
