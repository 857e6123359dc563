-- Numbers that ascend, and searches among them.
use Rattle.std.proofs.Common.{◌≡◌, ℕ, zero, suc, ◌+◌, ◌-◌, ◌*◌, ◌<◌, ◌≤◌, Bool, true, false, ◌||◌, eqb, ltb, ltb-true, ltb-false, List, [], ◌∷◌, ◌++◌, length, get_or, take, map, refl, sym, ap, subst, ◌∙◌, inl, inr, arith}
use Rattle.std.proofs.lemmas.Bool.{cases_Bool, cases_lt, eq-eqb, ne_eqb, eqb-true}
use Rattle.std.specs.Prelude.{filter}
use Rattle.std.proofs.lemmas.List.Folds.{list_any-append}
use Rattle.std.proofs.lemmas.List.{get_or-map, length-map, take_more}
use Rattle.std.specs.List.Sorted.{IsNonDecreasingBy, IsPartitionPoint}
use Rattle.ov_layout.specs.Parts.{has, Ascend}

pub Ascend-weaker : (low least : ℕ) (ns : List ℕ) → low ≤ least → Ascend least ns → Ascend low ns
Ascend-weaker low least [] le h = tt
Ascend-weaker low least (n ∷ ns) le h = (omega arith, h.1)

pub Ascend-least : (least : ℕ) (ns : List ℕ) (k d : ℕ) → Ascend least ns → k < length ns → least ≤ get_or ns k d
Ascend-least least [] k d h lt = absurd (omega arith)
Ascend-least least (n ∷ ns) zero d h lt = h.0
Ascend-least least (n ∷ ns) (suc k) d h lt = let next = Ascend-least (suc n) ns k d h.1 (omega arith) in omega arith

pub Ascend-strict : (least : ℕ) (ns : List ℕ) (i j d : ℕ) → Ascend least ns → i < j → j < length ns → get_or ns i d < get_or ns j d
Ascend-strict least [] i j d h lt within = absurd (omega arith)
Ascend-strict least (n ∷ ns) i zero d h lt within = absurd (omega arith)
Ascend-strict least (n ∷ ns) zero (suc j) d h lt within = let next = Ascend-least (suc n) ns j d h.1 (omega arith) in omega arith
Ascend-strict least (n ∷ ns) (suc i) (suc j) d h lt within = Ascend-strict (suc n) ns i j d h.1 (omega arith) (omega arith)

or-true : (b : Bool) → (b || true) ≡ true
or-true true = refl
or-true false = refl

pub has-get : (ns : List ℕ) (k d : ℕ) → k < length ns → has ns (get_or ns k d) ≡ true
has-get [] k d lt = absurd (omega arith)
has-get (n ∷ ns) zero d lt = rw (eq-eqb n n refl) refl
has-get (n ∷ ns) (suc k) d lt = rw (has-get ns k d (omega arith)) (or-true (eqb n (get_or ns k d)))

-- where a number is
pub record Found (ns : List ℕ) (n : ℕ) : Type 0 where
  pub at : ℕ
  pub within : at < length ns
  pub here : (d : ℕ) → get_or ns at d ≡ n

pub has-find : (ns : List ℕ) (n : ℕ) → has ns n ≡ true → Found ns n
has-find [] n h = absurd cc
has-find (x ∷ ns) n h =
    elim (cases_Bool (eqb x n)) [
      | inl e ↦ record { at = 0; within = omega arith; here = λ d. eqb-true x n e }
      | inr e ↦ let rest = has-find ns n (rw e at h) in record { at = suc rest.at; within = let w = rest.within in omega arith; here = rest.here }
    ]

pub has-none : (ns : List ℕ) (n : ℕ) → ((k : ℕ) → k < length ns → get_or ns k 0 ≡ n → ⊥) → has ns n ≡ false
has-none ns n none =
    elim (cases_Bool (has ns n)) [
      | inl e ↦ let found = has-find ns n e in absurd (none found.at found.within (found.here 0))
      | inr e ↦ e
    ]

module _ {X : Type 0} (key : X → ℕ) (xs : List X) (d : X) where
  key_at : (k : ℕ) → k < length xs → get_or (map key xs) k 0 ≡ key (get_or xs k d)
  key_at k lt = get_or-map key xs k d 0 lt

  pub keys-strict : (least i j : ℕ) → Ascend least (map key xs) → i < j → j < length xs → key (get_or xs i d) < key (get_or xs j d)
  keys-strict least i j h lt within =
      let one = Ascend-strict least (map key xs) i j 0 h lt (rw (length-map xs key) within) in
      let a = key_at i (omega arith) in
      let b = key_at j within in
      omega arith

  pub keys-one : (least i j : ℕ) → Ascend least (map key xs) → i < length xs → j < length xs → key (get_or xs i d) ≡ key (get_or xs j d) → i ≡ j
  keys-one least i j h in_i in_j e =
      elim (cases_lt i j) [
        | inl lt ↦ let one = keys-strict least i j h lt in_j in absurd (omega arith)
        | inr le ↦ elim (cases_lt j i) [
          | inl lt ↦ let one = keys-strict least j i h lt in_i in absurd (omega arith)
          | inr ge ↦ omega arith
        ]
      ]

  -- the place before which all keys are below a number is that of the number, if it is there
  pub point-found : (least n at : ℕ) → Ascend least (map key xs) → IsPartitionPoint (λ x. ltb (key x) n ≡ true) (λ x. ltb (key x) n ≡ false) xs at → has (map key xs) n ≡ true → (at < length xs) × (key (get_or xs at d) ≡ n)
  point-found least n at h point there =
      let found = has-find (map key xs) n there in
      let k = found.at in
      let within : k < length xs = rw (length-map xs key) at found.within in
      let here : key (get_or xs k d) ≡ n = sym (key_at k within) ∙ found.here 0 in
      elim (cases_lt k at) [
        | inl lt ↦ let low = ltb-true _ _ (point.0 k d (omega arith) lt) in absurd (omega arith)
        | inr le ↦
            let in_at : at < length xs = omega arith in
            let from = ltb-false _ _ (point.1 at d (omega arith) in_at) in
            elim (cases_lt at k) [
              | inl lt ↦ let one = keys-strict least at k h lt within in absurd (omega arith)
              | inr ge ↦ let same : k ≡ at = omega arith in (in_at, subst (λ (i : ℕ). key (get_or xs i d) ≡ n) same here)
            ]
      ]

  -- and where it isn't that of the number, the number isn't there
  pub point-missing : (least n at : ℕ) → Ascend least (map key xs) → IsPartitionPoint (λ x. ltb (key x) n ≡ true) (λ x. ltb (key x) n ≡ false) xs at → (at < length xs → key (get_or xs at d) ≡ n → ⊥) → has (map key xs) n ≡ false
  point-missing least n at h point none =
      elim (cases_Bool (has (map key xs) n)) [
        | inl e ↦ let found = point-found least n at h point e in absurd (none found.0 found.1)
        | inr e ↦ e
      ]

pub keys-ordered : {X : Type 0} (key : X → ℕ) (xs : List X) (least : ℕ) → Ascend least (map key xs) → IsNonDecreasingBy key xs
keys-ordered key xs least h i j d le within =
    elim (cases_lt i j) [
      | inl lt ↦ let one = keys-strict key xs d least i j h lt within in omega arith
      | inr ge ↦ let same : i ≡ j = omega arith in rw same (omega arith)
    ]

pub map-id : (ns : List ℕ) → map (λ n. n) ns ≡ ns
map-id [] = refl
map-id (n ∷ ns) = ap (λ (xs : List ℕ). n ∷ xs) (map-id ns)

-- what a search by halves finds among numbers
pub among-point : (ns : List ℕ) (n at : ℕ) → Ascend 0 ns → IsPartitionPoint (λ x. ltb x n ≡ true) (λ x. ltb x n ≡ false) ns at → at < length ns → eqb (get_or ns at 0) n ≡ has ns n
among-point ns n at h point within =
    elim (cases_Bool (eqb (get_or ns at 0) n)) [
      | inl e ↦ let here : get_or ns at 0 ≡ n = eqb-true _ _ e in e ∙ sym (subst (λ (m : ℕ). has ns m ≡ true) here (has-get ns at 0 within))
      | inr e ↦
          let ascend : Ascend 0 (map (λ n. n) ns) = subst (Ascend 0) (sym (map-id ns)) h in
          let none = point-missing (λ n. n) ns 0 0 n at ascend point (λ lt same. let yes = eq-eqb _ _ same in absurd cc) in
          e ∙ sym (subst (λ (ms : List ℕ). has ms n ≡ false) (map-id ns) none)
    ]

pub among-past : (ns : List ℕ) (n at : ℕ) → Ascend 0 ns → IsPartitionPoint (λ x. ltb x n ≡ true) (λ x. ltb x n ≡ false) ns at → length ns ≤ at → has ns n ≡ false
among-past ns n at h point past =
    let ascend : Ascend 0 (map (λ n. n) ns) = subst (Ascend 0) (sym (map-id ns)) h in
    let none = point-missing (λ n. n) ns 0 0 n at ascend point (λ lt same. absurd (omega arith)) in
    subst (λ (ms : List ℕ). has ms n ≡ false) (map-id ns) none

pub ids-ordered : (ns : List ℕ) (least : ℕ) → Ascend least ns → IsNonDecreasingBy (λ n. n) ns
ids-ordered ns least h = keys-ordered (λ n. n) ns least (subst (Ascend least) (sym (map-id ns)) h)

pub has-append : (xs ys : List ℕ) (n : ℕ) → has (xs ++ ys) n ≡ (has xs n || has ys n)
has-append xs ys n = list_any-append (λ m. eqb m n) xs ys

or-last : (a b : Bool) → (a || (b || false)) ≡ (a || b)
or-last true b = refl
or-last false true = refl
or-last false false = refl

-- one number more is among those that were gone through
pub has-more : (ns : List ℕ) (k n : ℕ) → k < length ns → has (take (k + 1) ns) n ≡ (has (take k ns) n || eqb (get_or ns k 0) n)
has-more ns k n lt =
    ap (λ (ms : List ℕ). has ms n) (take_more ns k 0 lt) ∙ has-append (take k ns) (get_or ns k 0 ∷ []) n ∙ or-last (has (take k ns) n) (eqb (get_or ns k 0) n)

pub length-filter-le : (test : ℕ → Bool) (ns : List ℕ) → length (filter test ns) ≤ length ns
length-filter-le test [] = omega arith
length-filter-le test (n ∷ ns) =
    let rest = length-filter-le test ns in
    elim (cases_Bool (test n)) [
      | inl e ↦ rw e (omega arith)
      | inr e ↦ rw e (omega arith)
    ]

-- what goes and what is left, times a number
pub saved-and-left : (all left each : ℕ) → left ≤ all → (all - left) * each + left * each ≡ all * each
saved-and-left all left each le =
    let gone : all ≡ (all - left) + left = omega arith in
    let d = all - left in
    let sum : d * each + left * each ≡ (d + left) * each = omega arith in
    sum ∙ ap (λ (n : ℕ). n * each) (sym gone)

pub has-below : (least : ℕ) (ns : List ℕ) (n : ℕ) → Ascend least ns → n < least → has ns n ≡ false
has-below least [] n h lt = refl
has-below least (m ∷ ns) n h lt = let le = h.0 in rw (ne_eqb m n (λ e. absurd (omega arith))) (has-below (suc m) ns n h.1 (omega arith))
