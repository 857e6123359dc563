-- Two keys whose columns are those of the rows from the first one on.
use Rattle.std.proofs.Common.{◌≡◌, ◌<◌, ◌+◌, ℕ, zero, suc, List, [], ◌∷◌, length, get_or, map, drop, refl, sym, ◌∙◌, ap, arith}
use Rattle.std.specs.Prelude.{◌≢◌, ◌==◌, true, false, not}
use Rattle.std.specs.Ordering.{ordering_index}
use Rattle.std.specs.Cmp.Lexicographic.{slice_cmp}
use Rattle.std.specs.declared.cmp.Ordering.{Ordering}
use Rattle.std.specs.declared.cmp.Ordering.TheVariants.{Less, Equal, Greater}
use Rattle.std.proofs.lemmas.List.{drop_more}
use Rattle.ov_value.specs.declared.value.Value.{Value}
use Rattle.ov_value.specs.Rows.{value_at, value_cmp}

-- the value in front of those from a column on, and those behind it
pub record Splits (row : List Value) (i : ℕ) (v : Value) (rest : List Value) : Type 0 where
  pub here : value_at row i ≡ v
  pub behind : drop (i + 1) row ≡ rest

pub splits : (row : List Value) (i : ℕ) (v : Value) (rest : List Value) → drop i row ≡ v ∷ rest → Splits row i v rest
splits [] zero v rest is = cc
splits [] (suc i) v rest is = cc
splits (x ∷ row) zero v rest is = record { here = ap (λ (l : List Value). value_at l 0) is; behind = ap (drop 1) is }
splits (x ∷ row) (suc i) v rest is =
    let next : suc i + 1 ≡ suc (i + 1) = omega arith in
    let s = splits row i v rest is in
    record { here = s.here; behind = ap (λ n. drop n (x ∷ row)) next ∙ s.behind }

Keys : List Value → List Value → List ℕ → Ordering
Keys a b key = slice_cmp value_cmp (map (value_at a) key) (map (value_at b) key)

-- of two values that are equal the others decide
pub key_goes_on : (a b : List Value) (key : List ℕ) (i d : ℕ) (v w : Value) → i < length key → get_or key i d ≡ i → value_at a i ≡ v → value_at b i ≡ w → value_cmp v w ≡ Equal
    → slice_cmp value_cmp (map (value_at a) (drop i key)) (map (value_at b) (drop i key)) ≡ slice_cmp value_cmp (map (value_at a) (drop (i + 1) key)) (map (value_at b) (drop (i + 1) key))
unfolding Keys
key_goes_on a b key i d v w low is here_a here_b same =
    let from : drop i key ≡ i ∷ drop (i + 1) key = drop_more key i d low ∙ ap (λ (n : ℕ). n ∷ drop (i + 1) key) is in
    let one : value_cmp (value_at a i) (value_at b i) ≡ Equal = (λ j. value_cmp (here_a j) (here_b j)) ∙ same in
    ap (λ l. Keys a b l) from ∙ equal (value_at a i) (value_at b i) (map (value_at a) (drop (i + 1) key)) (map (value_at b) (drop (i + 1) key)) one
  where
    equal : (x y : Value) (xs ys : List Value) → value_cmp x y ≡ Equal → slice_cmp value_cmp (x ∷ xs) (y ∷ ys) ≡ slice_cmp value_cmp xs ys
    equal x y xs ys e = rw e refl

-- of two that aren't they decide
pub key_decided : (a b : List Value) (key : List ℕ) (i d : ℕ) (v w : Value) (o : Ordering) → i < length key → get_or key i d ≡ i → value_at a i ≡ v → value_at b i ≡ w → o ≡ value_cmp v w → o ≢ Equal
    → slice_cmp value_cmp (map (value_at a) (drop i key)) (map (value_at b) (drop i key)) ≡ o
unfolding Keys
key_decided a b key i d v w o low is here_a here_b order other =
    let from : drop i key ≡ i ∷ drop (i + 1) key = drop_more key i d low ∙ ap (λ (n : ℕ). n ∷ drop (i + 1) key) is in
    let one : value_cmp (value_at a i) (value_at b i) ≡ o = (λ j. value_cmp (here_a j) (here_b j)) ∙ sym order in
    ap (λ l. Keys a b l) from ∙ decided (value_at a i) (value_at b i) (map (value_at a) (drop (i + 1) key)) (map (value_at b) (drop (i + 1) key)) o one other
  where
    decided : (x y : Value) (xs ys : List Value) (r : Ordering) → value_cmp x y ≡ r → r ≢ Equal → slice_cmp value_cmp (x ∷ xs) (y ∷ ys) ≡ r
    decided x y xs ys Less e other = rw e refl
    decided x y xs ys Equal e other = absurd (other refl)
    decided x y xs ys Greater e other = rw e refl

pub is_equal : (o : Ordering) → not (ordering_index o == 1) ≡ false → o ≡ Equal
is_equal Less e = cc
is_equal Equal e = refl
is_equal Greater e = cc

pub is_other : (o : Ordering) → not (ordering_index o == 1) ≡ true → o ≢ Equal
is_other o e same = no (sym (ap (λ x. not (ordering_index x == 1)) same) ∙ e)
  where
    no : false ≡ true → ⊥
    no wrong = cc
