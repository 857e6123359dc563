-- How often a rid stands in a list, and the records of rids that each have one.
use Rattle.std.proofs.Common.{◌≡◌, ◌<◌, ◌≤◌, ◌+◌, ◌^◌, ◌==◌, ℕ, suc, Bool, true, false, ◌||◌, cond, List, [], ◌∷◌, ◌++◌, length, get_or, refl, sym, ◌∙◌, ap, subst, inl, inr, arith}
use Rattle.std.specs.Prelude.{if◌then◌else◌}
use Rattle.std.specs.List.{AllByRecursion, sum_by}
use Rattle.std.specs.List.Sorted.{IsPermutation, IsNonDecreasingBy}
use Rattle.std.proofs.lemmas.Bool.{cases_eq, eq-eqb, ne_eqb}
use Rattle.std.proofs.lemmas.List.Sorted.{IsPermutation-map, sum_by-IsPermutation}
use Rattle.std.proofs.lemmas.List.Sums.{sum_by-cons}
use Rattle.ov_member.specs.Rids.{AreRids, RiseFrom, has}
use Rattle.ov_member.proofs.RidLemmas.{has-tail, same_from}
use Rattle.ov_value.specs.Shapes.{Shape}
use Rattle.ov_segment.specs.declared.numbered.Record.{Record}
use Rattle.ov_segment.specs.Segments.{AreRecords}
use Rattle.ov_model.specs.Placed.{times}
use Rattle.ov_fetch.specs.Extents.{rids_of}
use Rattle.ov_fetch.specs.Gathering.{IsRecord}
use Rattle.ov_fetch.proofs.Ordered.{sorted_all}

abbrev bit : Bool → ℕ
bit b = if b then 1 else 0

pub times_append : (xs ys : List ℕ) (n : ℕ) → times (xs ++ ys) n ≡ times xs n + times ys n
times_append [] ys n = omega arith
times_append (x ∷ xs) ys n = omega (arith, times_append xs ys n)

-- of a set each rid is there once
times_none : (least : ℕ) (xs : List ℕ) (n : ℕ) → RiseFrom least xs → n < least → times xs n ≡ 0
times_none least [] n rise low = refl
times_none least (x ∷ xs) n rise low =
    omega (arith, ap bit (ne_eqb x n (λ same. omega (arith, rise.0, low, same))), times_none (suc x) xs n rise.2 (omega (arith, rise.0, low)))

times_in : (least : ℕ) (xs : List ℕ) (n : ℕ) → RiseFrom least xs → times xs n ≡ cond (has xs n) 1 0
times_in least [] n rise = refl
times_in least (x ∷ xs) n rise =
    elim (cases_eq x n) [
      | inl same ↦
          let here : (x == n) ≡ true = eq-eqb x n same
          in let rest : times xs n ≡ 0 = times_none (suc x) xs n rise.2 (omega (arith, same))
          in omega (arith, ap bit here, rest) ∙ sym (ap (λ b. cond (b || has xs n) 1 0) here)
      | inr other ↦
          let off : (x == n) ≡ false = ne_eqb x n other
          in omega (arith, ap bit off) ∙ times_in (suc x) xs n rise.2 ∙ sym (ap (λ b. cond (b || has xs n) 1 0) off)
    ]

pub times_set : (xs : List ℕ) (n : ℕ) → AreRids xs → times xs n ≡ cond (has xs n) 1 0
times_set xs n set = times_in 1 xs n set

-- and what is there as often is in it
has_none : (xs : List ℕ) (n : ℕ) → times xs n ≡ 0 → has xs n ≡ false
has_none [] n none = refl
has_none (x ∷ xs) n none =
    elim (cases_eq x n) [
      | inl same ↦ absurd (omega (arith, ap bit (eq-eqb x n same), none))
      | inr other ↦ has-tail x xs n other ∙ has_none xs n (omega (arith, ap bit (ne_eqb x n other), none))
    ]

has_some : (xs : List ℕ) (n : ℕ) → 0 < times xs n → has xs n ≡ true
has_some [] n some = absurd (omega (arith, some))
has_some (x ∷ xs) n some =
    elim (cases_eq x n) [
      | inl same ↦ ap (λ b. b || has xs n) (eq-eqb x n same)
      | inr other ↦ has-tail x xs n other ∙ has_some xs n (omega (arith, ap bit (ne_eqb x n other), some))
    ]

pub has_times : (xs : List ℕ) (n : ℕ) (b : Bool) → times xs n ≡ cond b 1 0 → has xs n ≡ b
has_times xs n true is = has_some xs n (omega (arith, is))
has_times xs n false is = has_none xs n is

-- ---- in another order

times_sum : (xs : List ℕ) (n : ℕ) → times xs n ≡ sum_by (λ x. bit (x == n)) xs
times_sum [] n = refl
times_sum (x ∷ xs) n = omega (arith, times_sum xs n, sum_by-cons (λ (y : ℕ). bit (y == n)) x xs)

times_moved : (xs ys : List ℕ) (n : ℕ) → IsPermutation xs ys → times ys n ≡ times xs n
times_moved xs ys n moved = times_sum ys n ∙ sum_by-IsPermutation (λ (x : ℕ). bit (x == n)) xs ys moved ∙ sym (times_sum xs n)

-- rids that don't fall and stand there once at most ascend strictly
low_all : (schema : Shape) (rs : List Record) → AllByRecursion (IsRecord schema) rs → AllByRecursion (λ r. (1 ≤ r.rid) × (r.rid ≤ 2 ^ 31)) rs
low_all schema [] are = tt
low_all schema (r ∷ rs) are = ((omega (arith, are.0.above), are.0.below), low_all schema rs are.1)

rise : (least : ℕ) (rs : List Record) → ((d : Record) → 0 < length rs → least ≤ (get_or rs 0 d).rid) → IsNonDecreasingBy (λ r. r.rid) rs
    → AllByRecursion (λ r. (1 ≤ r.rid) × (r.rid ≤ 2 ^ 31)) rs → ((n : ℕ) → times (rids_of rs) n ≤ 1) → RiseFrom least (rids_of rs)
rise least [] first up low once = tt
rise least (r ∷ rs) first up low once = (
  first r (omega arith),
  low.0.1,
  rise (suc r.rid) rs (next rs up once) (λ i j d le below. up (suc i) (suc j) d (omega (arith, le)) (omega (arith, below))) low.1 (λ n. omega (arith, once n)),
)
  where
    next : (qs : List Record) → IsNonDecreasingBy (λ q. q.rid) (r ∷ qs) → ((n : ℕ) → times (rids_of (r ∷ qs)) n ≤ 1) → (d : Record) → 0 < length qs → suc r.rid ≤ (get_or qs 0 d).rid
    next [] rises one d some = absurd (omega (arith, some))
    next (q ∷ qs) rises one d some =
        let le : r.rid ≤ q.rid = rises 0 1 d (omega arith) (omega arith)
        in elim (cases_eq r.rid q.rid) [
          | inl same ↦ absurd (omega (arith, one q.rid, ap bit (eq-eqb r.rid q.rid same), ap bit (eq-eqb q.rid q.rid refl)))
          | inr other ↦ omega (arith, le, other)
        ]

pub sorted_rids : (schema : Shape) (found sorted : List Record) (rids : List ℕ) → AreRids rids → IsPermutation found sorted → IsNonDecreasingBy (λ r. r.rid) sorted
    → AllByRecursion (IsRecord schema) found → ((rid : ℕ) → times (rids_of found) rid ≡ cond (has rids rid) 1 0) → rids_of sorted ≡ rids
sorted_rids schema found sorted rids set moved up are once =
    same_from 1 1 (rids_of sorted) rids
    (rise 1 sorted
    (λ d some. (low_first sorted (low_all schema sorted (sorted_all schema found sorted moved are)) d some)) up
    (low_all schema sorted (sorted_all schema found sorted moved are)) (λ n. few n (has rids n) (counted n)))
    set (λ n. has_times (rids_of sorted) n (has rids n) (counted n))
  where
    counted : (n : ℕ) → times (rids_of sorted) n ≡ cond (has rids n) 1 0
    counted n = times_moved (rids_of found) (rids_of sorted) n (IsPermutation-map (λ (r : Record). r.rid) found sorted moved) ∙ once n

    few : (n : ℕ) (b : Bool) → times (rids_of sorted) n ≡ cond b 1 0 → times (rids_of sorted) n ≤ 1
    few n true is = omega (arith, is)
    few n false is = omega (arith, is)

    low_first : (rs : List Record) → AllByRecursion (λ r. (1 ≤ r.rid) × (r.rid ≤ 2 ^ 31)) rs → (d : Record) → 0 < length rs → 1 ≤ (get_or rs 0 d).rid
    low_first [] low d some = absurd (omega (arith, some))
    low_first (r ∷ rs) low d some = low.0.0

-- records with rids that ascend strictly are a segment's
records_from : (schema : Shape) (last : ℕ) (rs : List Record) → AllByRecursion (IsRecord schema) rs → RiseFrom (suc last) (rids_of rs) → AreRecords schema last rs
records_from schema last [] are up = tt
records_from schema last (r ∷ rs) are up =
    (record { above = omega (arith, up.0); below = are.0.below; row = are.0.row; small = are.0.small }, records_from schema r.rid rs are.1 up.2)

pub records_are : (schema : Shape) (found sorted : List Record) (rids : List ℕ) → AreRids rids → IsPermutation found sorted → AllByRecursion (IsRecord schema) found
    → rids_of sorted ≡ rids → AreRecords schema 0 sorted
records_are schema found sorted rids set moved are is =
    records_from schema 0 sorted (sorted_all schema found sorted moved are) (subst (RiseFrom 1) (sym is) set)
