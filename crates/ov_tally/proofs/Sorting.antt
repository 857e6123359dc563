-- Stable sorts: by a total order `sorted_by` is the only one; it goes through a map; it keeps the order of what is alike.
use Rattle.std.proofs.Common.{◌≡◌, ◌<◌, ◌+◌, ◌&&◌, ◌∷◌, ◌∙◌, [], ℕ, suc, List, Bool, true, false, not, cond, if◌then◌else◌, ap, ap₂, refl, sym, subst, length, map, map-id, get_or, drop, filter, arith, true≢false, is_lt, is_gt, Ordering, Less, Equal, Greater, IsSortedBy}
use Rattle.std.specs.Prelude.{⊤}
use Rattle.std.specs.List.{AllByRecursion}
use Rattle.std.specs.List.Sorted.{IsStableBy, ties}
use Rattle.std.specs.Ordering.{ordering_reverse}
use Rattle.std.specs.Cmp.{IsTotalOrder}
use Rattle.std.proofs.lemmas.Cmp.{tied_itself, upto}
use Rattle.std.proofs.lemmas.List.MinMax.{ranks_by}
use Rattle.std.proofs.lemmas.List.Sorted.{sorted_far}
use Rattle.ov_tally.specs.Ranks.{is_above, placed_by, sorted_by}

-- ---- elements keep what holds of them

choose-all : {X : Type 0} (P : X → Type 0) (b : Bool) (xs ys : List X) → AllByRecursion P xs → AllByRecursion P ys → AllByRecursion P (if b then xs else ys)
choose-all P true xs ys a c = a
choose-all P false xs ys a c = c

pub placed-all : {X : Type 0} (P : X → Type 0) (o : X → X → Ordering) (x : X) (ys : List X) → P x → AllByRecursion P ys → AllByRecursion P (placed_by o x ys)
placed-all P o x [] px all = (px, tt)
placed-all P o x (y ∷ ys) px all =
    choose-all P (is_above (o x y)) (y ∷ placed_by o x ys) (x ∷ y ∷ ys) (all.0, placed-all P o x ys px all.1) (px, all)

pub sorted-all : {X : Type 0} (P : X → Type 0) (o : X → X → Ordering) (xs : List X) → AllByRecursion P xs → AllByRecursion P (sorted_by o xs)
sorted-all P o [] all = tt
sorted-all P o (x ∷ xs) all = placed-all P o x (sorted_by o xs) all.0 (sorted-all P o xs all.1)

pub filter-all : {X : Type 0} (P : X → Type 0) (p : X → Bool) (xs : List X) → AllByRecursion P xs → AllByRecursion P (filter p xs)
filter-all P p [] all = tt
filter-all P p (x ∷ xs) all = choose-all P (p x) (x ∷ filter p xs) (filter p xs) (all.0, filter-all P p xs all.1) (filter-all P p xs all.1)

-- what holds of all holds of the first one that is kept
first-step : {X : Type 0} (P : X → Type 0) (b : Bool) (x a : X) (kept l : List X) → P x → (kept ≡ a ∷ l → P a) → (if b then x ∷ kept else kept) ≡ a ∷ l → P a
first-step P true x a kept l px later e = subst P (ap (λ m. get_or m 0 x) e) px
first-step P false x a kept l px later e = later e

pub first-kept : {X : Type 0} (P : X → Type 0) (p : X → Bool) (xs : List X) (a : X) (l : List X) → AllByRecursion P xs → filter p xs ≡ a ∷ l → P a
first-kept P p [] a l all e = cc
first-kept P p (x ∷ xs) a l all e = first-step P (p x) x a (filter p xs) l all.0 (first-kept P p xs a l all.1) e

-- ---- through a map, where the orders agree

map-if : {X Y : Type 0} (f : X → Y) (b : Bool) (xs ys : List X) → map f (if b then xs else ys) ≡ (if b then map f xs else map f ys)
map-if f true xs ys = refl
map-if f false xs ys = refl

pub placed-map : {X Y : Type 0} (f : X → Y) (o : X → X → Ordering) (p : Y → Y → Ordering) (P : X → Type 0)
    → ((x y : X) → P x → P y → o x y ≡ p (f x) (f y)) → (x : X) (ys : List X) → P x → AllByRecursion P ys
    → map f (placed_by o x ys) ≡ placed_by p (f x) (map f ys)
placed-map f o p P same x [] px all = refl
placed-map f o p P same x (y ∷ ys) px all =
    map-if f (is_above (o x y)) (y ∷ placed_by o x ys) (x ∷ y ∷ ys)
    ∙ ap (λ t. if is_above t then f y ∷ map f (placed_by o x ys) else f x ∷ f y ∷ map f ys) (same x y px all.0)
    ∙ ap (λ l. if is_above (p (f x) (f y)) then f y ∷ l else f x ∷ f y ∷ map f ys) (placed-map f o p P same x ys px all.1)

pub sorted-map : {X Y : Type 0} (f : X → Y) (o : X → X → Ordering) (p : Y → Y → Ordering) (P : X → Type 0)
    → ((x y : X) → P x → P y → o x y ≡ p (f x) (f y)) → (xs : List X) → AllByRecursion P xs
    → map f (sorted_by o xs) ≡ sorted_by p (map f xs)
sorted-map f o p P same [] all = refl
sorted-map f o p P same (x ∷ xs) all =
    placed-map f o p P same x (sorted_by o xs) all.0 (sorted-all P o xs all.1) ∙ ap (placed_by p (f x)) (sorted-map f o p P same xs all.1)

pub sorted-agree : {X : Type 0} (o p : X → X → Ordering) (P : X → Type 0) → ((x y : X) → P x → P y → o x y ≡ p x y)
    → (xs : List X) → AllByRecursion P xs → sorted_by o xs ≡ sorted_by p xs
sorted-agree o p P same xs all = sym (map-id (sorted_by o xs)) ∙ sorted-map (λ x. x) o p P same xs all ∙ ap (sorted_by p) (map-id xs)

-- ---- by a total order

-- no element is above one behind it
abbrev pub Rises : {X : Type 0} → (X → X → Ordering) → List X → Type 0
Rises R [] = ⊤
Rises R (x ∷ xs) = AllByRecursion (λ y. is_gt (R x y) ≡ false) xs × Rises R xs

pub above-gt : (o : Ordering) → is_above o ≡ is_gt o
above-gt Less = refl
above-gt Equal = refl
above-gt Greater = refl

reverse-gt : (o : Ordering) → is_above o ≡ true → is_gt (ordering_reverse o) ≡ false
reverse-gt Less e = absurd (true≢false (sym e))
reverse-gt Equal e = refl
reverse-gt Greater e = refl

lt-gt : (o : Ordering) → is_gt (ordering_reverse o) ≡ is_lt o
lt-gt Less = refl
lt-gt Equal = refl
lt-gt Greater = refl

pub upto-all : {X : Type 0} (R : X → X → Ordering) (t : IsTotalOrder R) (x y : X) (zs : List X) → is_gt (R x y) ≡ false
    → AllByRecursion (λ z. is_gt (R y z) ≡ false) zs → AllByRecursion (λ z. is_gt (R x z) ≡ false) zs
upto-all R t x y [] e all = tt
upto-all R t x y (z ∷ zs) e all = (upto t x y z e all.0, upto-all R t x y zs e all.1)

rises-step : {X : Type 0} (R : X → X → Ordering) (t : IsTotalOrder R) (x y : X) (ys : List X) (b : Bool) → is_above (R x y) ≡ b → Rises R (y ∷ ys)
    → Rises R (placed_by R x ys) → Rises R (if b then y ∷ placed_by R x ys else x ∷ y ∷ ys)
rises-step R t x y ys true e up placed =
    (placed-all (λ z. is_gt (R y z) ≡ false) R x ys (ap is_gt (t.antisymm y x) ∙ reverse-gt (R x y) e) up.0, placed)
rises-step R t x y ys false e up placed =
    let le : is_gt (R x y) ≡ false = sym (above-gt (R x y)) ∙ e in
    ((le, upto-all R t x y ys le up.0), up)

pub placed-rises : {X : Type 0} (R : X → X → Ordering) (t : IsTotalOrder R) (x : X) (ys : List X) → Rises R ys → Rises R (placed_by R x ys)
placed-rises R t x [] up = (tt, tt)
placed-rises R t x (y ∷ ys) up = rises-step R t x y ys (is_above (R x y)) refl up (placed-rises R t x ys up.1)

pub sorted-rises : {X : Type 0} (R : X → X → Ordering) (t : IsTotalOrder R) (xs : List X) → Rises R (sorted_by R xs)
sorted-rises R t [] = tt
sorted-rises R t (x ∷ xs) = placed-rises R t x (sorted_by R xs) (sorted-rises R t xs)

-- ---- what is alike stays in its order

swap-kept : {X : Type 0} (p q : Bool) (x y : X) (l : List X) → (p ≡ true → q ≡ true → ⊥)
    → cond q (y ∷ cond p (x ∷ l) l) (cond p (x ∷ l) l) ≡ cond p (x ∷ cond q (y ∷ l) l) (cond q (y ∷ l) l)
swap-kept true true x y l unlike = absurd (unlike refl refl)
swap-kept true false x y l unlike = refl
swap-kept false true x y l unlike = refl
swap-kept false false x y l unlike = refl

kept-step : {X : Type 0} (R : X → X → Ordering) (q : X → Bool) (x y : X) (ys : List X) (b : Bool) → (q x ≡ true → q y ≡ true → b ≡ true → ⊥)
    → filter q (placed_by R x ys) ≡ filter q (x ∷ ys) → filter q (if b then y ∷ placed_by R x ys else x ∷ y ∷ ys) ≡ filter q (x ∷ y ∷ ys)
kept-step R q x y ys true unlike e =
    ap (λ l. cond (q y) (y ∷ l) l) e ∙ swap-kept (q x) (q y) x y (filter q ys) (λ a b. unlike a b refl)
kept-step R q x y ys false unlike e = refl

pub placed-kept : {X : Type 0} (R : X → X → Ordering) (q : X → Bool) → ((x y : X) → q x ≡ true → q y ≡ true → is_above (R x y) ≡ true → ⊥)
    → (x : X) (ys : List X) → filter q (placed_by R x ys) ≡ filter q (x ∷ ys)
placed-kept R q unlike x [] = refl
placed-kept R q unlike x (y ∷ ys) = kept-step R q x y ys (is_above (R x y)) (unlike x y) (placed-kept R q unlike x ys)

pub sorted-kept : {X : Type 0} (R : X → X → Ordering) (q : X → Bool) → ((x y : X) → q x ≡ true → q y ≡ true → is_above (R x y) ≡ true → ⊥)
    → (xs : List X) → filter q (sorted_by R xs) ≡ filter q xs
sorted-kept R q unlike [] = refl
sorted-kept R q unlike (x ∷ xs) = placed-kept R q unlike x (sorted_by R xs) ∙ ap (λ l. cond (q x) (x ∷ l) l) (sorted-kept R q unlike xs)

abbrev pub below : {X : Type 0} → (X → X → Ordering) → X → X → Bool
below R x y = is_lt (R x y)

tied : (o : Ordering) → (not (is_lt o) && not (is_lt (ordering_reverse o))) ≡ true → o ≡ Equal
tied Less e = absurd (true≢false (sym e))
tied Equal e = refl
tied Greater e = absurd (true≢false (sym e))

pub tie : {X : Type 0} (R : X → X → Ordering) (t : IsTotalOrder R) (z x : X) → ties (below R) z x ≡ true → R z x ≡ Equal
tie R t z x e = tied (R z x) (ap (λ o. not (is_lt (R z x)) && not (is_lt o)) (sym (t.antisymm x z)) ∙ e)

pub apart : (o : Ordering) → o ≡ Equal → is_above o ≡ true → ⊥
apart o e above = true≢false (sym above ∙ ap is_above e)

pub ties-together : {X : Type 0} (R : X → X → Ordering) (t : IsTotalOrder R) (z x y : X) → ties (below R) z x ≡ true → ties (below R) z y ≡ true
    → is_above (R x y) ≡ true → ⊥
ties-together R t z x y ex ey above = apart (R x y) (sym (t.congr z x y (tie R t z x ex)) ∙ tie R t z y ey) above

-- ---- there is one stable sort

tie-self : {X : Type 0} (R : X → X → Ordering) (t : IsTotalOrder R) (x : X) → ties (below R) x x ≡ true
tie-self R t x = ap (λ o. not (is_lt o) && not (is_lt o)) (tied_itself t x)

tie-equal : {X : Type 0} (R : X → X → Ordering) (t : IsTotalOrder R) (x y : X) → R x y ≡ Equal → ties (below R) x y ≡ true
tie-equal R t x y e = ap₂ (λ o p. not (is_lt o) && not (is_lt p)) e (t.antisymm y x ∙ ap ordering_reverse e)

both-ways : (o : Ordering) → is_gt o ≡ false → is_gt (ordering_reverse o) ≡ false → o ≡ Equal
both-ways Less e f = absurd (true≢false f)
both-ways Equal e f = refl
both-ways Greater e f = absurd (true≢false e)

-- the first one of a rising list isn't above one that is kept of it
first-low : {X : Type 0} (R : X → X → Ordering) (t : IsTotalOrder R) (q : X → Bool) (b a : X) (bs l : List X) → Rises R (b ∷ bs) → filter q (b ∷ bs) ≡ a ∷ l
    → is_gt (R b a) ≡ false
first-low R t q b a bs l up e = first-kept (λ z. is_gt (R b z) ≡ false) q (b ∷ bs) a l (ap is_gt (tied_itself t b), up.0) e

same-tail : {X : Type 0} (p q : Bool) (a b : X) (l m : List X) → p ≡ q → cond p (a ∷ l) l ≡ cond q (b ∷ m) m → l ≡ m
same-tail true true a b l m pq e = ap (drop 1) e
same-tail true false a b l m pq e = absurd (true≢false pq)
same-tail false true a b l m pq e = absurd (true≢false (sym pq))
same-tail false false a b l m pq e = e

pub one-list : {X : Type 0} (R : X → X → Ordering) (t : IsTotalOrder R) (xs ys : List X) → Rises R xs → Rises R ys
    → ((z : X) → filter (ties (below R) z) xs ≡ filter (ties (below R) z) ys) → xs ≡ ys
one-list {X} R t [] [] up vp same = refl
one-list {X} R t [] (b ∷ ys) up vp same =
    let clash : [] ≡ b ∷ filter (ties (below R) b) ys = same b ∙ ap (λ p. cond p (b ∷ filter (ties (below R) b) ys) (filter (ties (below R) b) ys)) (tie-self R t b) in cc
one-list {X} R t (a ∷ xs) [] up vp same =
    let clash : a ∷ filter (ties (below R) a) xs ≡ [] = ap (λ p. cond p (a ∷ filter (ties (below R) a) xs) (filter (ties (below R) a) xs)) (sym (tie-self R t a)) ∙ same a in cc
one-list {X} R t (a ∷ xs) (b ∷ ys) up vp same =
    let fa : X → List X = λ z. filter (ties (below R) z) xs in
    let fb : X → List X = λ z. filter (ties (below R) z) ys in
    let at-a : a ∷ fa a ≡ cond (ties (below R) a b) (b ∷ fb a) (fb a) = ap (λ p. cond p (a ∷ fa a) (fa a)) (sym (tie-self R t a)) ∙ same a in
    let at-b : b ∷ fb b ≡ cond (ties (below R) b a) (a ∷ fa b) (fa b) = ap (λ p. cond p (b ∷ fb b) (fb b)) (sym (tie-self R t b)) ∙ sym (same b) in
    let ba : is_gt (R b a) ≡ false = first-low R t (ties (below R) a) b a ys (fa a) vp (sym at-a) in
    let ab : is_gt (R a b) ≡ false = first-low R t (ties (below R) b) a b xs (fb b) up (sym at-b) in
    let equal : R a b ≡ Equal = both-ways (R a b) ab (ap is_gt (sym (t.antisymm b a)) ∙ ba) in
    let heads : a ∷ fa a ≡ b ∷ fb a = at-a ∙ ap (λ p. cond p (b ∷ fb a) (fb a)) (tie-equal R t a b equal) in
    let is : a ≡ b = ap (λ l. get_or l 0 a) heads in
    ap₂ (λ x l. x ∷ l) is (one-list R t xs ys up.1 vp.1 (λ z. same-tail (ties (below R) z a) (ties (below R) z b) a b (fa z) (fb z) (ap (ties (below R) z) is) (same z)))

-- ---- what a sort ensures

by-index : {X : Type 0} (P : X → Type 0) (xs : List X) → ((k : ℕ) (d : X) → k < length xs → P (get_or xs k d)) → AllByRecursion P xs
by-index P [] each = tt
by-index P (x ∷ xs) each = (each 0 x (omega arith), by-index P xs (λ k d lt. each (suc k) d (omega (arith, lt))))

sorted-tail : {X : Type 0} (lt : X → X → Bool) (x : X) (xs : List X) → IsSortedBy lt (x ∷ xs) → IsSortedBy lt xs
sorted-tail lt x xs up k d low high =
    let e : suc k + 1 ≡ suc (k + 1) = omega arith in
    subst (λ n. lt (get_or (x ∷ xs) n d) (get_or xs k d) ≡ false) e (up (suc k) d (omega arith) (omega (arith, high)))

pub rises-from : {X : Type 0} (R : X → X → Ordering) (t : IsTotalOrder R) (xs : List X) → IsSortedBy (below R) xs → Rises R xs
rises-from R t [] up = tt
rises-from R t (x ∷ xs) up = (
  by-index (λ y. is_gt (R x y) ≡ false) xs (λ k d lt.
      ap is_gt (t.antisymm x (get_or xs k d)) ∙ lt-gt (R (get_or xs k d) x)
      ∙ sorted_far (below R) (ranks_by t (λ y. y)) (x ∷ xs) up 0 (suc k) d (omega arith) (omega (arith, lt))),
  rises-from R t xs (sorted-tail (below R) x xs up),
)

-- a stable sort by a total order gives this list
pub one-sort : {X : Type 0} (R : X → X → Ordering) (t : IsTotalOrder R) (xs ys : List X) → IsSortedBy (below R) ys → IsStableBy (below R) xs ys
    → ys ≡ sorted_by R xs
one-sort R t xs ys up stable =
    one-list R t ys (sorted_by R xs) (rises-from R t ys up) (sorted-rises R t xs)
    (λ z. stable z ∙ sym (sorted-kept R (ties (below R) z) (ties-together R t z) xs))
