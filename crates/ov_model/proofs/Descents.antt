-- The relatives of a version are what they are to be.
use Rattle.std.proofs.Common.{◌≡◌, ◌≤◌, ◌<◌, ◌⊎◌, ℕ, zero, suc, ◌+◌, ◌-◌, Bool, true, false, List, [], ◌∷◌, length, map, filter, if◌then◌else◌, refl, sym, ◌∙◌, ap, subst, inl, inr, arith}
use Rattle.std.specs.Prelude.{◌↔◌, ◌||◌, ◌==◌, slice_index_or}
use Rattle.std.specs.List.{list_any}
use Rattle.std.proofs.lemmas.Bool.{eq-eqb, eqb-true}
use Rattle.ov_model.specs.Book.{Version, Cvd}
use Rattle.ov_model.specs.Descent.{AreBefore, AreEarlier, IsDescent, IsAncestor, IsRelated}
use Rattle.ov_model.specs.Lineages.{parents_at, is_parent, is_above_in, is_ancestor, is_relative, relatives}
use Rattle.ov_model.specs.Lists.{IsIn}
use Rattle.ov_model.specs.Records.{counted}
use Rattle.ov_model.specs.declared.query.LineageKind.{LineageKind}
use Rattle.ov_model.specs.declared.query.LineageKind.TheVariants.{Parents, Ancestors, Descendants}

-- ---- lists

or-true : (a b : Bool) → (a || b) ≡ true → (a ≡ true) ⊎ (b ≡ true)
or-true true b e = inl refl
or-true false b e = inr e

or-left : (a b : Bool) → a ≡ true → (a || b) ≡ true
or-left true b e = refl
or-left false b e = absurd cc

or-right : (a b : Bool) → b ≡ true → (a || b) ≡ true
or-right true b e = refl
or-right false b e = e

-- one that passes
abbrev Passing : (ℕ → Bool) → List ℕ → Type 0
Passing test xs = (x : ℕ) × IsIn xs x × (test x ≡ true)

pub any-passing : (test : ℕ → Bool) (xs : List ℕ) → list_any test xs ≡ true → Passing test xs
any-passing test [] e = absurd cc
any-passing test (x ∷ xs) e = elim (or-true (test x) (list_any test xs) e) [
  | inl here ↦ (x, inl refl, here)
  | inr later ↦ let more = any-passing test xs later in (more.0, inr more.1, more.2)
]

pub passing-any : (test : ℕ → Bool) (xs : List ℕ) (x : ℕ) → IsIn xs x → test x ≡ true → list_any test xs ≡ true
passing-any test [] x is passes = absurd is
passing-any test (y ∷ ys) x (inl here) passes = or-left (test y) (list_any test ys) (ap test (sym here) ∙ passes)
passing-any test (y ∷ ys) x (inr later) passes = or-right (test y) (list_any test ys) (passing-any test ys x later passes)

kept-if : (t : Bool) (x y : ℕ) (rest : List ℕ) → IsIn (if t then x ∷ rest else rest) y → ((y ≡ x) × (t ≡ true)) ⊎ IsIn rest y
kept-if true x y rest (inl here) = inl (here, refl)
kept-if true x y rest (inr later) = inr later
kept-if false x y rest is = inr is

in-filter : (test : ℕ → Bool) (xs : List ℕ) (x : ℕ) → IsIn (filter test xs) x → IsIn xs x × (test x ≡ true)
in-filter test [] x is = absurd is
in-filter test (y ∷ ys) x is = elim (kept-if (test y) y x (filter test ys) is) [
  | inl here ↦ (inl here.0, ap test here.0 ∙ here.1)
  | inr later ↦ let more = in-filter test ys x later in (inr more.0, more.1)
]

put-first : (t : Bool) (x y : ℕ) (rest : List ℕ) → y ≡ x → t ≡ true → IsIn (if t then x ∷ rest else rest) y
put-first true x y rest here passes = inl here
put-first false x y rest here passes = absurd cc

put-later : (t : Bool) (x y : ℕ) (rest : List ℕ) → IsIn rest y → IsIn (if t then x ∷ rest else rest) y
put-later true x y rest is = inr is
put-later false x y rest is = is

filter-in : (test : ℕ → Bool) (xs : List ℕ) (x : ℕ) → IsIn xs x → test x ≡ true → IsIn (filter test xs) x
filter-in test [] x is passes = absurd is
filter-in test (y ∷ ys) x (inl here) passes = put-first (test y) y x (filter test ys) here (ap test (sym here) ∙ passes)
filter-in test (y ∷ ys) x (inr later) passes = put-later (test y) y x (filter test ys) (filter-in test ys x later passes)

in-counted : (n count x : ℕ) → IsIn (counted n count) x → (n ≤ x) × (x < n + count)
in-counted n zero x is = absurd is
in-counted n (suc count) x (inl here) = (omega (arith, here), omega (arith, here))
in-counted n (suc count) x (inr later) = let more = in-counted (n + 1) count x later in (omega (arith, more.0), omega (arith, more.1))

first-or-later : (n x : ℕ) → n ≤ x → (x ≡ n) ⊎ (n + 1 ≤ x)
first-or-later zero zero below = inl refl
first-or-later zero (suc x) below = inr (omega arith)
first-or-later (suc n) zero below = absurd (omega (arith, below))
first-or-later (suc n) (suc x) below = elim (first-or-later n x (omega (arith, below))) [
  | inl same ↦ inl (ap (λ (k : ℕ). suc k) same)
  | inr more ↦ inr (omega (arith, more))
]

counted-in : (n count x : ℕ) → n ≤ x → x < n + count → IsIn (counted n count) x
counted-in n zero x low high = absurd (omega (arith, low, high))
counted-in n (suc count) x low high = elim (first-or-later n x low) [
  | inl here ↦ inl here
  | inr later ↦ inr (counted-in (n + 1) count x later (omega (arith, high)))
]

-- ---- parents are earlier

below-in : (n : ℕ) (ps : List ℕ) (p : ℕ) → AreBefore n ps → IsIn ps p → (1 ≤ p) × (p < n)
below-in n [] p are is = absurd is
below-in n (q ∷ ps) p are (inl here) = (subst (λ (k : ℕ). 1 ≤ k) (sym here) are.0.0, subst (λ (k : ℕ). k < n) (sym here) are.0.1)
below-in n (q ∷ ps) p are (inr later) = below-in n ps p are.1 later

listed-below : (n : ℕ) (versions : List Version) (place p : ℕ) → AreEarlier n versions → IsIn (slice_index_or (map (λ v. v.parents) versions) place []) p
    → (1 ≤ p) × (p < n + place)
listed-below n [] place p are is = absurd is
listed-below n (v ∷ versions) zero p are is = let low = below-in n v.parents p are.0 is in (low.0, omega (arith, low.1))
listed-below n (v ∷ versions) (suc place) p are is =
    let low = listed-below (n + 1) versions place p are.1 is in (low.0, omega (arith, low.1))

pub earlier : (versions : List Version) (child p : ℕ) → AreEarlier 1 versions → IsIn (parents_at versions child) p → p < child
earlier versions zero p are is = let low = listed-below 1 versions (0 - 1) p are is in absurd (omega (arith, low.0, low.1))
earlier versions (suc child) p are is =
    let low = listed-below 1 versions (suc child - 1) p are is in omega (arith, low.1)

-- ---- ancestors

module _ (versions : List Version) (vid : ℕ) where
  abbrev up : ℕ → ℕ → Bool
  up steps p = p == vid || is_above_in steps versions vid p

  above-leads : (steps child : ℕ) → is_above_in steps versions vid child ≡ true → IsAncestor versions vid child
  above-leads zero child e = absurd cc
  above-leads (suc steps) child e =
      let one = any-passing (up steps) (parents_at versions child) e
      in elim (or-true (one.0 == vid) (is_above_in steps versions vid one.0) one.2) [
        | inl same ↦ ([], subst (λ (p : ℕ). IsIn (parents_at versions child) p) (eqb-true one.0 vid same) one.1)
        | inr later ↦ let more = above-leads steps one.0 later in (one.0 ∷ more.0, (one.1, more.1))
      ]

  leads-above : (path : List ℕ) (steps child : ℕ) → AreEarlier 1 versions → child ≤ steps → IsDescent versions vid path child
      → is_above_in steps versions vid child ≡ true
  leads-above [] zero child are low is = absurd (omega (arith, low, earlier versions child vid are is))
  leads-above [] (suc steps) child are low is =
      passing-any (up steps) (parents_at versions child) vid is (or-left (vid == vid) (is_above_in steps versions vid vid) (eq-eqb vid vid refl))
  leads-above (mid ∷ path) zero child are low is = absurd (omega (arith, low, earlier versions child mid are is.0))
  leads-above (mid ∷ path) (suc steps) child are low is =
      let under : mid < child = earlier versions child mid are is.0
      in passing-any (up steps) (parents_at versions child) mid is.0
      (or-right (mid == vid) (is_above_in steps versions vid mid) (leads-above path steps mid are (omega (arith, under, low)) is.1))

pub ancestor-is : (versions : List Version) (vid child : ℕ) → AreEarlier 1 versions → (is_ancestor versions vid child ≡ true) ↔ IsAncestor versions vid child
ancestor-is versions vid child are =
    (above-leads versions vid child child, λ some. leads-above versions vid some.0 child child are (omega arith) some.1)

parent-is : (versions : List Version) (vid child : ℕ) → (is_parent versions vid child ≡ true) ↔ IsIn (parents_at versions child) vid
parent-is versions vid child = (
  λ e. let one = any-passing (λ p. p == vid) (parents_at versions child) e in subst (λ (p : ℕ). IsIn (parents_at versions child) p) (eqb-true one.0 vid one.2) one.1,
  λ is. passing-any (λ p. p == vid) (parents_at versions child) vid is (eq-eqb vid vid refl),
)

relative-is : (versions : List Version) (kind : LineageKind) (vid other : ℕ) → AreEarlier 1 versions
    → (is_relative versions kind vid other ≡ true) ↔ IsRelated versions kind vid other
relative-is versions Parents vid other are = parent-is versions other vid
relative-is versions Ancestors vid other are = ancestor-is versions other vid are
relative-is versions Descendants vid other are = ancestor-is versions vid other are

pub relatives-are : (cvd : Cvd) (kind : LineageKind) (vid other : ℕ) → AreEarlier 1 cvd.versions
    → IsIn (relatives cvd kind vid) other ↔ ((1 ≤ other) × (other ≤ length cvd.versions) × IsRelated cvd.versions kind vid other)
relatives-are cvd kind vid other are =
    let test : ℕ → Bool = is_relative cvd.versions kind vid
    in let all : List ℕ = counted 1 (length cvd.versions)
    in (
      λ is. let one = in-filter test all other is
          in let range = in-counted 1 (length cvd.versions) other one.0
          in (range.0, omega (arith, range.1), (relative-is cvd.versions kind vid other are).0 one.1),
      λ so. filter-in test all other (counted-in 1 (length cvd.versions) other so.0 (omega (arith, so.1))) ((relative-is cvd.versions kind vid other are).1 so.2),
    )
