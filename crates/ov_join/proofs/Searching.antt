-- A search for what is equal to a key, among elements that are sorted by theirs.
use Rattle.std.proofs.Common.{◌≡◌, ◌<◌, ◌≤◌, ◌+◌, ◌∷◌, ◌∙◌, [], ℕ, zero, suc, List, Bool, true, false, ap, refl, sym, length, drop, get_or, filter, take, arith, add-one, drop-cons, true≢false, is_eq, is_gt, is_lt, Ordering, Less, Equal, Greater, cond, if◌then◌else◌}
use Rattle.std.proofs.lemmas.List.{drop_all}
use Rattle.std.specs.List.{AllByRecursion, prefix_len}
use Rattle.std.specs.List.Sorted.{IsPartitionPoint, IsPartitionedBy}
use Rattle.std.specs.Ordering.{on, ordering_reverse}
use Rattle.std.specs.Cmp.{IsTotalOrder}
use Rattle.std.proofs.lemmas.Cmp.{tied_itself}
use Rattle.ov_qrun.proofs.Sorting.{Rises}

all-at : {X : Type 0} (P : X → Type 0) (xs : List X) → AllByRecursion P xs → (j : ℕ) (d : X) → j < length xs → P (get_or xs j d)
all-at P [] all j d lt = absurd (omega (arith, lt))
all-at P (x ∷ xs) all zero d lt = all.0
all-at P (x ∷ xs) all (suc j) d lt = all-at P xs all.1 j d (omega (arith, lt))

rises-at : {X : Type 0} (R : X → X → Ordering) → IsTotalOrder R → (xs : List X) → Rises R xs → (i j : ℕ) (d : X) → i ≤ j → j < length xs → is_gt (R (get_or xs i d) (get_or xs j d)) ≡ false
rises-at R t [] up i j d le lt = absurd (omega (arith, lt))
rises-at R t (x ∷ xs) up zero zero d le lt = ap is_gt (tied_itself t x)
rises-at R t (x ∷ xs) up zero (suc j) d le lt = all-at (λ y. is_gt (R x y) ≡ false) xs up.0 j d (omega (arith, lt))
rises-at R t (x ∷ xs) up (suc i) zero d le lt = absurd (omega (arith, le))
rises-at R t (x ∷ xs) up (suc i) (suc j) d le lt = rises-at R t xs up.1 i j d (omega (arith, le)) (omega (arith, lt))

one-more : (n : ℕ) → suc n ≡ 1 + n
one-more n = omega arith

lt-less : (o : Ordering) → is_lt o ≡ true → o ≡ Less
lt-less Less e = refl
lt-less Equal e = absurd (true≢false (sym e))
lt-less Greater e = absurd (true≢false (sym e))

module _ {K : Type 0} (Q : K → K → Ordering) (t : IsTotalOrder Q) (k : K) where
  low-by : (x y : K) (o : Ordering) → Q x y ≡ o → is_gt o ≡ false → is_lt (Q y k) ≡ true → is_lt (Q x k) ≡ true
  low-by x y Less e le h = ap is_lt (t.trans x y k e (lt-less (Q y k) h))
  low-by x y Equal e le h = ap is_lt (t.congr x y k e) ∙ h
  low-by x y Greater e le h = absurd (true≢false le)

  high-by : (x y : K) (o : Ordering) → Q x y ≡ o → is_gt o ≡ false → Q x k ≡ Greater → Q y k ≡ Greater
  high-by x y Less e le h = t.antisymm y k ∙ ap ordering_reverse (t.trans k x y (t.antisymm k x ∙ ap ordering_reverse h) e)
  high-by x y Equal e le h = sym (t.congr x y k e) ∙ h
  high-by x y Greater e le h = absurd (true≢false le)

  module _ {X : Type 0} (key : X → K) where
    pub partitioned : IsTotalOrder (on key Q) → (xs : List X) → Rises (on key Q) xs → IsPartitionedBy (λ x. is_lt (Q (key x) k)) xs
    partitioned total xs up i j d le lt h =
        low-by (key (get_or xs i d)) (key (get_or xs j d)) (Q (key (get_or xs i d)) (key (get_or xs j d))) refl (rises-at (on key Q) total xs up i j d le lt) h

    -- none that comes later is equal
    later : (x : X) (xs : List X) → Q (key x) k ≡ Greater → AllByRecursion (λ y. is_gt (Q (key x) (key y)) ≡ false) xs → filter (λ y. is_eq (Q (key y) k)) xs ≡ []
    later x [] e all = refl
    later x (y ∷ ys) e all =
        ap (λ o. cond (is_eq o) (y ∷ filter (λ y. is_eq (Q (key y) k)) ys) (filter (λ y. is_eq (Q (key y) k)) ys)) (high-by (key x) (key y) (Q (key x) (key y)) refl all.0 e)
        ∙ later x ys e all.1

    run-by : (x : X) (xs : List X) (o : Ordering) → Q (key x) k ≡ o → is_lt o ≡ false → AllByRecursion (λ y. is_gt (Q (key x) (key y)) ≡ false) xs
        → filter (λ y. is_eq (Q (key y) k)) xs ≡ take (prefix_len (λ y. is_eq (Q (key y) k)) xs) xs
        → filter (λ y. is_eq (Q (key y) k)) (x ∷ xs) ≡ take (prefix_len (λ y. is_eq (Q (key y) k)) (x ∷ xs)) (x ∷ xs)
    run-by x xs Less e below all before = absurd (true≢false below)
    run-by x xs Equal e below all before =
        let p : X → Bool = λ y. is_eq (Q (key y) k) in
        ap (λ o. cond (is_eq o) (x ∷ filter p xs) (filter p xs)) e ∙ ap (λ l. x ∷ l) before
        ∙ ap (λ n. take n (x ∷ xs)) (one-more (prefix_len p xs))
        ∙ sym (ap (λ o. take (if is_eq o then 1 + prefix_len p xs else 0) (x ∷ xs)) e)
    run-by x xs Greater e below all before =
        let p : X → Bool = λ y. is_eq (Q (key y) k) in
        ap (λ o. cond (is_eq o) (x ∷ filter p xs) (filter p xs)) e ∙ later x xs e all
        ∙ sym (ap (λ o. take (if is_eq o then 1 + prefix_len p xs else 0) (x ∷ xs)) e)

    -- those that are equal stand in front of those that aren't below
    run : (xs : List X) → Rises (on key Q) xs → ((j : ℕ) (d : X) → j < length xs → is_lt (Q (key (get_or xs j d)) k) ≡ false)
        → filter (λ y. is_eq (Q (key y) k)) xs ≡ take (prefix_len (λ y. is_eq (Q (key y) k)) xs) xs
    run [] up below = refl
    run (x ∷ xs) up below = run-by x xs (Q (key x) k) refl (below 0 x (omega arith)) up.0 (run xs up.1 (λ j d lt. below (suc j) d (omega (arith, lt))))

    pub found : (i : ℕ) (xs : List X) → Rises (on key Q) xs → i ≤ length xs → IsPartitionPoint (λ x. is_lt (Q (key x) k) ≡ true) (λ x. is_lt (Q (key x) k) ≡ false) xs i
        → filter (λ y. is_eq (Q (key y) k)) xs ≡ take (prefix_len (λ y. is_eq (Q (key y) k)) (drop i xs)) (drop i xs)
    found zero xs up le point = run xs up (λ j d lt. point.1 j d (omega arith) lt)
    found (suc i) [] up le point = absurd (omega (arith, le))
    found (suc i) (x ∷ xs) up le point =
        let p : X → Bool = λ y. is_eq (Q (key y) k) in
        ap (λ o. cond (is_eq o) (x ∷ filter p xs) (filter p xs)) (lt-less (Q (key x) k) (point.0 0 x (omega arith) (omega arith)))
        ∙ found i xs up.1 (omega (arith, le)) (
          (λ j d low high. point.0 (suc j) d (omega arith) (omega (arith, high))),
          (λ j d low high. point.1 (suc j) d (omega (arith, low)) (omega (arith, high))),
        )

-- ---- how many are equal

pub prefix-stops : {X : Type 0} (p : X → Bool) (xs : List X) (i : ℕ) (d : X) → i < length xs → p (get_or xs i d) ≡ false → prefix_len p xs ≡ i + prefix_len p (drop i xs) → i ≡ prefix_len p xs
prefix-stops p xs i d lt below before =
    let here : drop i xs ≡ get_or xs i d ∷ drop (i + 1) xs = rw (add-one i) (drop-cons xs i d lt) in
    let none : prefix_len p (drop i xs) ≡ 0 = ap (prefix_len p) here ∙ ap (λ b. if b then 1 + prefix_len p (drop (i + 1) xs) else 0) below in
    omega (arith, before, none)

pub prefix-more : {X : Type 0} (p : X → Bool) (xs : List X) (i : ℕ) (d : X) → i < length xs → p (get_or xs i d) ≡ true → prefix_len p xs ≡ i + prefix_len p (drop i xs)
    → prefix_len p xs ≡ (i + 1) + prefix_len p (drop (i + 1) xs)
prefix-more p xs i d lt passes before =
    let here : drop i xs ≡ get_or xs i d ∷ drop (i + 1) xs = rw (add-one i) (drop-cons xs i d lt) in
    let one : prefix_len p (drop i xs) ≡ 1 + prefix_len p (drop (i + 1) xs) = ap (prefix_len p) here ∙ ap (λ b. if b then 1 + prefix_len p (drop (i + 1) xs) else 0) passes in
    omega (arith, before, one)

pub prefix-all : {X : Type 0} (p : X → Bool) (xs : List X) (i : ℕ) → length xs ≤ i → prefix_len p xs ≡ i + prefix_len p (drop i xs) → i ≡ prefix_len p xs
prefix-all p xs i end before =
    let none : prefix_len p (drop i xs) ≡ 0 = ap (prefix_len p) (drop_all i xs end) in
    omega (arith, before, none)
