-- Sorted rids have the same members; and rids of records in order ascend.
use Rattle.std.proofs.Common.{◌≡◌, ◌≤◌, ◌^◌, ℕ, suc, ◌+◌, Bool, true, false, ◌&&◌, ◌||◌, ◌==◌, List, [], ◌∷◌, length, map, refl, sym, ◌∙◌, ap, subst, inl, inr, arith}
use Rattle.std.specs.Prelude.{nat_le, filter, if◌then◌else◌}
use Rattle.std.specs.List.{list_all}
use Rattle.std.proofs.lemmas.Bool.{cases_Bool, eq-eqb}
use Rattle.ov_member.specs.Rids.{RiseFrom, has}
use Rattle.ov_model.specs.Lists.{IsIn}
use Rattle.ov_model.specs.Records.{Rec, is_same_rec, rid_in}
use Rattle.ov_model.proofs.Counting.{one_if}
use Rattle.ov_model.proofs.Growing.{same_rec-refl}
use Rattle.ov_model.proofs.Holds.{same_recs}
use Rattle.ov_model.proofs.Ordering.{of_filter}
use Rattle.law_partitions.specs.Pieces.{NoTwice}
use Rattle.law_partitions.proofs.PieceTimes.{one_self, in_times}
use Rattle.ov_catalog.specs.Shown.{put_by, sorted_by}

pub or_right : (a b : Bool) → b ≡ true → (a || b) ≡ true
or_right true b e = refl
or_right false b e = e

-- ---- sorted rids

abbrev pub sorted : List ℕ → List ℕ
sorted xs = sorted_by (λ n. n) xs

abbrev pub put : ℕ → List ℕ → List ℕ
put x xs = put_by (λ n. n) x xs

counted_one : (p : ℕ → Bool) (x : ℕ) (xs : List ℕ) → length (filter p (x ∷ xs)) ≡ one_if (p x) + length (filter p xs)
counted_one p x xs = by (p x)
  where
    by : (b : Bool) → length (if b then x ∷ filter p xs else filter p xs) ≡ one_if b + length (filter p xs)
    by true = omega arith
    by false = omega arith

put_counted : (p : ℕ → Bool) (x : ℕ) (xs : List ℕ) → length (filter p (put x xs)) ≡ one_if (p x) + length (filter p xs)
put_counted p x [] = counted_one p x []
put_counted p x (y ∷ ys) = by (nat_le x y) (put_counted p x ys)
  where
    by : (b : Bool) → length (filter p (put x ys)) ≡ one_if (p x) + length (filter p ys)
        → length (filter p (if b then x ∷ y ∷ ys else y ∷ put x ys)) ≡ one_if (p x) + length (filter p (y ∷ ys))
    by true rest = counted_one p x (y ∷ ys)
    by false rest = omega (arith, counted_one p y (put x ys), counted_one p y ys, rest)

pub sorted_counted : (p : ℕ → Bool) (xs : List ℕ) → length (filter p (sorted xs)) ≡ length (filter p xs)
sorted_counted p [] = refl
sorted_counted p (x ∷ xs) = omega (arith, put_counted p x (sorted xs), sorted_counted p xs, counted_one p x xs)

or_turned : (a b c : Bool) → (b || (a || c)) ≡ (a || (b || c))
or_turned true true c = refl
or_turned true false c = refl
or_turned false true c = refl
or_turned false false c = refl

and_turned : (a b c : Bool) → (b && (a && c)) ≡ (a && (b && c))
and_turned true true c = refl
and_turned true false c = refl
and_turned false true c = refl
and_turned false false c = refl

put_has : (x : ℕ) (xs : List ℕ) (n : ℕ) → has (put x xs) n ≡ ((x == n) || has xs n)
put_has x [] n = refl
put_has x (y ∷ ys) n = by (nat_le x y) (put_has x ys n)
  where
    by : (b : Bool) → has (put x ys) n ≡ ((x == n) || has ys n) → has (if b then x ∷ y ∷ ys else y ∷ put x ys) n ≡ ((x == n) || ((y == n) || has ys n))
    by true rest = refl
    by false rest = ap (λ b. (y == n) || b) rest ∙ or_turned (x == n) (y == n) (has ys n)

pub sorted_has : (xs : List ℕ) (n : ℕ) → has (sorted xs) n ≡ has xs n
sorted_has [] n = refl
sorted_has (x ∷ xs) n = put_has x (sorted xs) n ∙ ap (λ b. (x == n) || b) (sorted_has xs n)

put_all : (p : ℕ → Bool) (x : ℕ) (xs : List ℕ) → list_all p (put x xs) ≡ (p x && list_all p xs)
put_all p x [] = refl
put_all p x (y ∷ ys) = by (nat_le x y) (put_all p x ys)
  where
    by : (b : Bool) → list_all p (put x ys) ≡ (p x && list_all p ys) → list_all p (if b then x ∷ y ∷ ys else y ∷ put x ys) ≡ (p x && (p y && list_all p ys))
    by true rest = refl
    by false rest = ap (λ b. p y && b) rest ∙ and_turned (p x) (p y) (list_all p ys)

pub sorted_all : (p : ℕ → Bool) (xs : List ℕ) → list_all p (sorted xs) ≡ list_all p xs
sorted_all p [] = refl
sorted_all p (x ∷ xs) = put_all p x (sorted xs) ∙ ap (λ b. p x && b) (sorted_all p xs)

pub same_filter : {X : Type 0} (p q : X → Bool) (xs : List X) → ((x : X) → p x ≡ q x) → filter p xs ≡ filter q xs
same_filter p q [] same = refl
same_filter p q (x ∷ xs) same = rw (same x, same_filter p q xs same) refl

-- ---- rids of records in order

abbrev Climb : ℕ → List ℕ → Type 0
Climb least [] = Unit {0}
Climb least (n ∷ ns) = (least ≤ n) × Climb (suc n) ns

climb_next : (f : Rec → ℕ) (least : ℕ) (rs : List Rec) → Climb least (map f rs) → Climb (suc least) (map (λ r. f r + 1) rs)
climb_next f least [] climb = tt
climb_next f least (r ∷ rs) climb = (omega (arith, climb.0), subst (λ n. Climb n (map (λ x. f x + 1) rs)) (omega arith) (climb_next f (suc (f r)) rs climb.1))

pub rise_of : (least : ℕ) (ns : List ℕ) → Climb least ns → ((n : ℕ) → has ns n ≡ true → n ≤ 2 ^ 31) → RiseFrom least ns
rise_of least [] climb low = tt
rise_of least (n ∷ ns) climb low =
    (climb.0, low n (ap (λ b. b || has ns n) (eq-eqb n n refl)), rise_of (suc n) ns climb.1 (λ m there. low m (or_right (n == m) (has ns m) there)))

behind : (x : Rec) (all rs : List Rec) → ((r : Rec) → IsIn rs r → is_same_rec r x ≡ false) → map (rid_in (x ∷ all)) rs ≡ map (λ r. rid_in all r + 1) rs
behind x all [] other = refl
behind x all (r ∷ rs) other =
    λ i. ap (λ (b : Bool). if b then 1 else rid_in all r + 1) (other r (inl refl)) i ∷ behind x all rs (λ s is. other s (inr is)) i

other_than : (x : Rec) (all : List Rec) → NoTwice (x ∷ all) → (r : Rec) → IsIn all r → is_same_rec r x ≡ false
other_than x all once r is = elim (cases_Bool (is_same_rec r x)) [
  | inl same ↦ absurd (omega (arith, once x, one_self x, in_times all x (subst (IsIn all) (same_recs r x same) is)))
  | inr other ↦ other
]

pub rids_climb : (p : Rec → Bool) (all : List Rec) → NoTwice all → Climb 1 (map (rid_in all) (filter p all))
rids_climb p [] once = tt
rids_climb p (x ∷ all) once = by (p x) (next (rids_climb p all (λ r. omega (arith, once r))))
  where
    next : Climb 1 (map (rid_in all) (filter p all)) → Climb 2 (map (rid_in (x ∷ all)) (filter p all))
    next later = subst (Climb 2) (sym (behind x all (filter p all) (λ r is. other_than x all once r (of_filter p all r is).0))) (climb_next (rid_in all) 1 (filter p all) later)

    weaker : (ns : List ℕ) → Climb 2 ns → Climb 1 ns
    weaker [] climb = tt
    weaker (n ∷ ns) climb = (omega (arith, climb.0), climb.1)

    by : (b : Bool) → Climb 2 (map (rid_in (x ∷ all)) (filter p all)) → Climb 1 (map (rid_in (x ∷ all)) (if b then x ∷ filter p all else filter p all))
    by true rest = subst (λ n. (1 ≤ n) × Climb (suc n) (map (rid_in (x ∷ all)) (filter p all))) (sym (ap (λ (b : Bool). if b then 1 else rid_in all x + 1) (same_rec-refl x))) (omega arith, rest)
    by false rest = weaker (map (rid_in (x ∷ all)) (filter p all)) rest
