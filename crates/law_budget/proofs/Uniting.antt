-- Sets of rids have a union.
use Rattle.std.proofs.Common.{◌≡◌, ◌≤◌, ◌^◌, ◌||◌, ◌==◌, ℕ, suc, Bool, true, false, List, [], ◌∷◌, get_or, refl, sym, ◌∙◌, ap, inl, inr, arith}
use Rattle.std.specs.Prelude.{◌-◌, nat_lt, if◌then◌else◌, zero}
use Rattle.std.specs.List.{All}
use Rattle.std.proofs.lemmas.Bool.{cases_lt, cases_eq, eq-eqb, lt-ltb, le-ltb, ne_eqb}
use Rattle.ov_member.specs.Rids.{AreRids, RiseFrom, has}
use Rattle.ov_budget.specs.Sizes.{IsTogether}
use Rattle.ov_budget.specs.Tables.{list_at}

-- one rid more, if it isn't there
abbrev put : ℕ → List ℕ → List ℕ
put x [] = x ∷ []
put x (y ∷ ys) = if nat_lt x y then x ∷ y ∷ ys else (if x == y then y ∷ ys else y ∷ put x ys)

put_rise : (least x : ℕ) (ys : List ℕ) → least ≤ x → x ≤ 2 ^ 31 → RiseFrom least ys → RiseFrom least (put x ys)
put_rise least x [] low most rise = (low, most, tt)
put_rise least x (y ∷ ys) low most rise = elim (cases_lt x y) [
  | inl less ↦ rw (lt-ltb x y less) (low, most, (omega (arith, less), rise.1, rise.2))
  | inr more ↦ elim (cases_eq x y) [
    | inl same ↦ rw (le-ltb x y more, eq-eqb x y same) rise
    | inr other ↦ rw (le-ltb x y more, ne_eqb x y other) (rise.0, rise.1, put_rise (suc y) x ys (omega (arith, more, other)) most rise.2)
  ]
]

turned : (a b c : Bool) → (b || (a || c)) ≡ (a || (b || c))
turned true true c = refl
turned true false c = refl
turned false true c = refl
turned false false c = refl

twice : (a c : Bool) → (a || c) ≡ (a || (a || c))
twice true c = refl
twice false c = refl

put_has : (x : ℕ) (ys : List ℕ) (n : ℕ) → has (put x ys) n ≡ ((x == n) || has ys n)
put_has x [] n = refl
put_has x (y ∷ ys) n = elim (cases_lt x y) [
  | inl less ↦ rw (lt-ltb x y less) refl
  | inr more ↦ elim (cases_eq x y) [
    | inl same ↦ rw (le-ltb x y more, eq-eqb x y same) (twice (y == n) (has ys n) ∙ ap (λ m. (m == n) || ((y == n) || has ys n)) (sym same))
    | inr other ↦ rw (le-ltb x y more, ne_eqb x y other) (ap (λ b. (y == n) || b) (put_has x ys n) ∙ turned (x == n) (y == n) (has ys n))
  ]
]

abbrev united : List ℕ → List ℕ → List ℕ
united [] ys = ys
united (x ∷ xs) ys = put x (united xs ys)

united_rise : (least : ℕ) (xs ys : List ℕ) → AreRids ys → 1 ≤ least → RiseFrom least xs → AreRids (united xs ys)
united_rise least [] ys set low rise = set
united_rise least (x ∷ xs) ys set low rise =
    put_rise 1 x (united xs ys) (omega (arith, low, rise.0)) rise.1 (united_rise (suc x) xs ys set (omega arith) rise.2)

grouped : (a b c : Bool) → (a || (b || c)) ≡ ((a || b) || c)
grouped true b c = refl
grouped false b c = refl

united_has : (xs ys : List ℕ) (n : ℕ) → has (united xs ys) n ≡ (has xs n || has ys n)
united_has [] ys n = refl
united_has (x ∷ xs) ys n = put_has x (united xs ys) n ∙ ap (λ b. (x == n) || b) (united_has xs ys n) ∙ grouped (x == n) (has xs n) (has ys n)

-- ---- of versions

pub together : List (List ℕ) → List ℕ → List ℕ
together lists [] = []
together lists (vid ∷ vids) = united (list_at lists vid) (together lists vids)

set_at : (lists : List (List ℕ)) (k : ℕ) → All AreRids lists → AreRids (get_or lists k [])
set_at [] k sets = tt
set_at (list ∷ lists) zero sets = sets 0 [] (omega arith)
set_at (list ∷ lists) (suc k) sets = set_at lists k (λ j d lt. sets (suc j) d (omega (arith, lt)))

pub is_together : (lists : List (List ℕ)) (vids : List ℕ) → All AreRids lists → IsTogether lists vids (together lists vids)
unfolding together
is_together lists [] sets = record { sets = tt; set = tt; together = λ rid. refl }
is_together lists (vid ∷ vids) sets =
    let rest = is_together lists vids sets in
    let own = set_at lists (vid - 1) sets in
    record {
      sets = (own, rest.sets);
      set = united_rise 1 (list_at lists vid) (together lists vids) rest.set (omega arith) own;
      together = λ rid. united_has (list_at lists vid) (together lists vids) rid ∙ ap (λ b. has (list_at lists vid) rid || b) (rest.together rid);
    }
