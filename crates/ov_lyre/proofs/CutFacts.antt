-- A cut: its two parts, and their sums.
use Rattle.std.proofs.Common.{◌≡◌, ℕ, ◌+◌, ◌≤◌, true, false, not, List, [], ◌∷◌, length, refl, sym, ◌∙◌, ap, subst, inl, inr, arith}
use Rattle.std.proofs.lemmas.Bool.{cases_Bool}
use Rattle.std.proofs.lemmas.List.Filters.{length-filter_both}
use Rattle.ov_graph.specs.Trees.{VersionTree, total, fresh}
use Rattle.ov_graph.specs.Splits.{Ascends, Has, HasParents, IsPart, edges, is_under, lower, upper, records, members}
use Rattle.ov_lyre.proofs.PartFacts.{total-both, Ascends-filter, lies, has-filter}
use Rattle.ov_lyre.proofs.UnderFacts.{IsSoundTree, under-self, under-smaller, under-parent}

module _ (tree : VersionTree) (sound : IsSoundTree tree) where
  -- R, by the sum of what is fresh
  pub records-fresh : (top : ℕ) (rest : List ℕ) → records tree (top ∷ rest) ≡ total (fresh tree) (top ∷ rest) + tree.weight top
  records-fresh top rest = let w = sound.within top in omega arith

  -- from a vid on, a part's list is the vid and those behind it
  pub record From (vid high : ℕ) (whole rest : List ℕ) : Type 0 where
    pub behind : List ℕ
    pub ascends : Ascends vid high behind
    pub connected : HasParents tree whole behind
    pub is : lower tree vid rest ≡ vid ∷ lower tree vid behind

  pub from : (vid low high : ℕ) (whole rest : List ℕ) → Ascends low high rest → HasParents tree whole rest → Has rest vid → From vid high whole rest
  from vid low high whole [] up parents has = absurd has
  from vid low high whole (x ∷ rest) up parents (inl is) = record {
    behind = rest;
    ascends = rw (sym is) up.2;
    connected = parents.1;
    is =
        let own : is_under tree x x ≡ true = under-self tree sound x in
        let P : ℕ → Type 0 = λ v. lower tree v (x ∷ rest) ≡ v ∷ lower tree v rest in
        subst P is (rw own refl);
  }
  from vid low high whole (x ∷ rest) up parents (inr has) =
      let tail = from vid x high whole rest up.2 parents.1 has in
      let above = (lies x high rest vid up.2 has).above in
      record { behind = tail.behind; ascends = tail.ascends; connected = tail.connected; is = rw (under-smaller tree sound vid x above) tail.is }

  -- parents stay on the side of their children
  upper-parents : (vid high : ℕ) (whole : List ℕ) (low : ℕ) (xs : List ℕ) → Ascends low high xs → HasParents tree whole xs → HasParents tree (upper tree vid whole) (upper tree vid xs)
  upper-parents vid high whole low [] up parents = tt
  upper-parents vid high whole low (x ∷ xs) up parents =
      let rest = upper-parents vid high whole x xs up.2 parents.1 in
      elim (cases_Bool (is_under tree vid x)) [
        | inl under ↦ rw under rest
        | inr apart ↦
            let above = up.0 in
            let other : x ≡ vid → ⊥ = λ e. (let own = under-self tree sound vid in let h = rw e at apart in cc) in
            let parent : is_under tree vid (tree.parent x) ≡ false = sym (under-parent tree sound vid x (omega arith) other) ∙ apart in
            rw apart (has-filter (λ version. not (is_under tree vid version)) whole (tree.parent x) parents.0 (rw parent refl), rest)
      ]

  lower-parents : (vid high : ℕ) (whole : List ℕ) (low : ℕ) (xs : List ℕ) → vid ≤ low → Ascends low high xs → HasParents tree whole xs → HasParents tree (lower tree vid whole) (lower tree vid xs)
  lower-parents vid high whole low [] le up parents = tt
  lower-parents vid high whole low (x ∷ xs) le up parents =
      let above = up.0 in
      let rest = lower-parents vid high whole x xs (omega arith) up.2 parents.1 in
      elim (cases_Bool (is_under tree vid x)) [
        | inl under ↦
            let parent : is_under tree vid (tree.parent x) ≡ true = sym (under-parent tree sound vid x (omega arith) (λ e. absurd (omega arith))) ∙ under in
            rw under (has-filter (λ version. is_under tree vid version) whole (tree.parent x) parents.0 parent, rest)
        | inr apart ↦ rw apart rest
      ]

  -- what a cut of the edge of vid leaves of a part
  pub record Sides (count : ℕ) (part : List ℕ) (vid : ℕ) : Type 0 where
    pub upper_part : IsPart tree count (upper tree vid part)
    pub lower_part : IsPart tree count (lower tree vid part)
    pub behind : List ℕ
    pub lower_first : lower tree vid part ≡ vid ∷ behind
    pub lengths : length (upper tree vid part) + length (lower tree vid part) ≡ length part
    pub record_sum : records tree (upper tree vid part) + records tree (lower tree vid part) ≡ records tree part + tree.weight vid
    pub lower_records : records tree (lower tree vid part) ≡ total (fresh tree) (lower tree vid part) + tree.weight vid
    pub member_sum : members tree (upper tree vid part) + members tree (lower tree vid part) ≡ members tree part

  pub sides : (count : ℕ) (part : List ℕ) (vid : ℕ) → IsPart tree count part → Has (edges part) vid → Sides count part vid
  sides count [] vid is has = absurd has
  sides count (top ∷ rest) vid is has =
      let part = top ∷ rest in
      let up = is.ascends in
      let positive = up.0 in
      let tail = from vid top count part rest up.2 is.connected has in
      let above = (lies top count rest vid up.2 has).above in
      let top_apart : is_under tree vid top ≡ false = under-smaller tree sound vid top above in
      let upper_is : upper tree vid part ≡ top ∷ upper tree vid rest = rw top_apart refl in
      let low_is : lower tree vid part ≡ lower tree vid rest = rw top_apart refl in
      let lower_is : lower tree vid part ≡ vid ∷ lower tree vid tail.behind = low_is ∙ tail.is in
      let fresh_sum = total-both (fresh tree) (λ version. is_under tree vid version) rest in
      let fresh_low : total (fresh tree) (lower tree vid rest) ≡ fresh tree vid + total (fresh tree) (lower tree vid tail.behind) = ap (total (fresh tree)) tail.is in
      let w = sound.within vid in
      let lower_sum : records tree (lower tree vid part) ≡ total (fresh tree) (lower tree vid part) + tree.weight vid = rw lower_is (omega arith) in
      record {
        upper_part = record {
          some = rw upper_is (omega arith);
          ascends = Ascends-filter (λ version. not (is_under tree vid version)) 0 count part up;
          connected = subst (λ (xs : List ℕ). HasParents tree xs (edges xs)) (sym upper_is) (subst (λ (xs : List ℕ). HasParents tree xs (upper tree vid rest)) upper_is (upper-parents vid count part top rest up.2 is.connected));
        };
        lower_part = record {
          some = rw lower_is (omega arith);
          ascends = Ascends-filter (λ version. is_under tree vid version) 0 count part up;
          connected = subst (λ (xs : List ℕ). HasParents tree xs (edges xs)) (sym lower_is) (subst (λ (xs : List ℕ). HasParents tree xs (lower tree vid tail.behind)) lower_is (lower-parents vid count part vid tail.behind (omega arith) tail.ascends tail.connected));
        };
        behind = lower tree vid tail.behind;
        lower_first = lower_is;
        lengths = (let both = length-filter_both (λ version. is_under tree vid version) (λ version. not (is_under tree vid version)) (λ _. refl) part in omega arith);
        record_sum = rw upper_is (let h = lower_sum in rw (lower_sum, low_is) (omega arith));
        lower_records = lower_sum;
        member_sum = total-both tree.records (λ version. is_under tree vid version) part;
      }
