-- Lists of numbers that ascend and of names that differ: one more at the end, and some left out.
use Rattle.std.proofs.Common.{◌≡◌, ◌<◌, ℕ, Bool, true, false, List, [], ◌∷◌, ◌++◌, refl, ap, subst, arith}
use Rattle.std.specs.Prelude.{nat_le, nat_lt}
use Rattle.std.specs.List.{list_all, list_any}
use Rattle.std.specs.Str.{bytes_eq}
use Rattle.std.proofs.lemmas.Bool.{leb-true, le-leb, lt-ltb, ltb-true, or_from, or_parts}
use Rattle.law_snapshots.proofs.Tests.{all_more}
use Rattle.law_snapshots.specs.Whole.{AreNew}

-- ---- numbers

pub below_more : (m next : ℕ) → m < next → (ns : List ℕ) → list_all (λ n. nat_lt n m) ns ≡ true → list_all (λ n. nat_lt n next) ns ≡ true
below_more m next less ns all = all_more (λ n. nat_lt n m) (λ n. nat_lt n next) ns (λ n low. let lt = ltb-true n m low in lt-ltb n next (omega (arith, lt, less))) all

pub up_to_below : (last m : ℕ) → last < m → (ns : List ℕ) → list_all (λ n. nat_le n last) ns ≡ true → list_all (λ n. nat_lt n m) ns ≡ true
up_to_below last m less ns all = all_more (λ n. nat_le n last) (λ n. nat_lt n m) ns (λ n low. let le = leb-true n last low in lt-ltb n m (omega (arith, le, less))) all

pub below_up_to : (m : ℕ) (ns : List ℕ) → list_all (λ n. nat_lt n m) ns ≡ true → list_all (λ n. nat_le n m) ns ≡ true
below_up_to m ns all = all_more (λ n. nat_lt n m) (λ n. nat_le n m) ns (λ n low. let lt = ltb-true n m low in le-leb n m (omega (arith, lt))) all

-- ---- names

any_more : (p : List ℕ → Bool) (names : List (List ℕ)) (name : List ℕ) → list_any p names ≡ false → p name ≡ false → list_any p (names ++ name ∷ []) ≡ false
any_more p [] name none last = or_from (p name) false last refl
any_more p (x ∷ names) name none last =
    let both = or_parts (p x) (list_any p names) none
    in or_from (p x) (list_any p (names ++ name ∷ [])) both.0 (any_more p names name both.1 last)

any_parts : (p : List ℕ → Bool) (names : List (List ℕ)) (name : List ℕ) → list_any p (names ++ name ∷ []) ≡ false → (list_any p names ≡ false) × (p name ≡ false)
any_parts p [] name none = (refl, (or_parts (p name) false none).0)
any_parts p (x ∷ names) name none =
    let both = or_parts (p x) (list_any p (names ++ name ∷ [])) none
    in let rest = any_parts p names name both.1
    in (or_from (p x) (list_any p names) both.0 rest.0, rest.1)

-- all that is in the first list is in the second
abbrev pub AreAmong : List (List ℕ) → List (List ℕ) → Type 0
AreAmong few many = (p : List ℕ → Bool) → list_any p many ≡ false → list_any p few ≡ false

pub among_both : (few many : List (List ℕ)) (name : List ℕ) → AreAmong few many → AreAmong (few ++ name ∷ []) (many ++ name ∷ [])
among_both few many name among p none =
    let both = any_parts p many name none
    in any_more p few name (among p both.0) both.1

pub among_more : (few many : List (List ℕ)) (name : List ℕ) → AreAmong few many → AreAmong few (many ++ name ∷ [])
among_more few many name among p none = among p (any_parts p many name none).0

pub new_more : (before names : List (List ℕ)) (name : List ℕ) → AreNew before names → list_any (λ other. bytes_eq other name) (before ++ names) ≡ false → AreNew before (names ++ name ∷ [])
new_more before [] name are none = (subst (λ (xs : List (List ℕ)). list_any (λ other. bytes_eq other name) xs ≡ false) (at_end before) none, tt)
  where
    at_end : (xs : List (List ℕ)) → xs ++ [] ≡ xs
    at_end [] = refl
    at_end (x ∷ xs) = ap (λ ys. x ∷ ys) (at_end xs)
new_more before (x ∷ names) name are none =
    (are.0, new_more (before ++ x ∷ []) names name are.1 (subst (λ (xs : List (List ℕ)). list_any (λ other. bytes_eq other name) xs ≡ false) (moved before) none))
  where
    moved : (xs : List (List ℕ)) → xs ++ x ∷ names ≡ (xs ++ x ∷ []) ++ names
    moved [] = refl
    moved (y ∷ xs) = ap (λ ys. y ∷ ys) (moved xs)
