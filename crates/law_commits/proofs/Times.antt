-- Numbers of which none stands twice: as many as there are among others at most.
use Rattle.std.proofs.Common.{◌≡◌, ◌≤◌, ◌<◌, ℕ, zero, suc, ◌+◌, Bool, true, false, ◌==◌, List, [], ◌∷◌, length, refl, sym, ◌∙◌, ap, inl, inr, arith}
use Rattle.std.specs.Prelude.{◌⊎◌, if◌then◌else◌}
use Rattle.std.specs.List.{range_with_len}
use Rattle.std.specs.Ordering.{nat_cmp, eq_by_cmp}
use Rattle.std.specs.Cmp.{unsigned_tied}
use Rattle.std.specs.Set.{distinct_count, is_member}
use Rattle.std.proofs.lemmas.Bool.{cases_lt, eqb-true, false_from_ne_true, or_cases}
use Rattle.std.proofs.lemmas.List.FromFn.{length-range_with_len}
use Rattle.ov_segment.specs.declared.numbered.Record.{Record}
use Rattle.ov_model.specs.Book.{Row}
use Rattle.ov_model.specs.Lists.{IsIn}
use Rattle.ov_model.specs.Placed.{times}
use Rattle.ov_model.proofs.Counting.{one_if, one_same}
use Rattle.ov_records.specs.Records.{pairs_of}
use Rattle.law_commits.specs.Differing.{rids_of}

-- ---- members

pub in_times : (xs : List ℕ) (n : ℕ) → IsIn xs n → 1 ≤ times xs n
in_times [] n is = absurd is
in_times (x ∷ xs) n (inl same) = omega (arith, one_same x n (sym same))
in_times (x ∷ xs) n (inr later) = omega (arith, in_times xs n later)

in_if : (t : Bool) (x n : ℕ) (xs : List ℕ) → (t ≡ true → n ≡ x) → (1 ≤ times xs n → IsIn xs n) → 1 ≤ one_if t + times xs n → (n ≡ x) ⊎ IsIn xs n
in_if true x n xs same later some = inl (same refl)
in_if false x n xs same later some = inr (later (omega (arith, some)))

pub times_in : (xs : List ℕ) (n : ℕ) → 1 ≤ times xs n → IsIn xs n
times_in [] n some = absurd (omega (arith, some))
times_in (x ∷ xs) n some = in_if (x == n) x n xs (λ t. sym (eqb-true x n t)) (times_in xs n) some

pub pairs_rid : (records : List Record) (p : ℕ × Row) → IsIn (pairs_of records) p → IsIn (rids_of records) p.0
pairs_rid [] p is = absurd is
pairs_rid (r ∷ records) p (inl same) = inl (ap (λ (x : ℕ × Row). x.0) same)
pairs_rid (r ∷ records) p (inr later) = inr (pairs_rid records p later)

-- ---- one taken out

abbrev less : ℕ → List ℕ → List ℕ
less x [] = []
less x (y ∷ ys) = if y == x then ys else y ∷ less x ys

less_long : (x : ℕ) (ys : List ℕ) → 1 ≤ times ys x → length (less x ys) + 1 ≡ length ys
less_long x [] some = absurd (omega (arith, some))
less_long x (y ∷ ys) some = by (y == x) some (less_long x ys)
  where
    by : (t : Bool) → 1 ≤ one_if t + times ys x → (1 ≤ times ys x → length (less x ys) + 1 ≡ length ys) → length (if t then ys else y ∷ less x ys) + 1 ≡ length (y ∷ ys)
    by true there rest = omega arith
    by false there rest = omega (arith, rest (omega (arith, there)))

less_times : (x n : ℕ) (ys : List ℕ) → 1 ≤ times ys x → times (less x ys) n + one_if (x == n) ≡ times ys n
less_times x n [] some = absurd (omega (arith, some))
less_times x n (y ∷ ys) some = by (y == x) (eqb-true y x) some (less_times x n ys)
  where
    by : (t : Bool) → (t ≡ true → y ≡ x) → 1 ≤ one_if t + times ys x → (1 ≤ times ys x → times (less x ys) n + one_if (x == n) ≡ times ys n)
        → times (if t then ys else y ∷ less x ys) n + one_if (x == n) ≡ one_if (y == n) + times ys n
    by true same there rest = omega (arith, ap (λ z. one_if (z == n)) (same refl))
    by false same there rest = omega (arith, rest (omega (arith, there)))

-- ---- no more than there are

pub no_more : (xs ys : List ℕ) → ((n : ℕ) → times xs n ≤ times ys n) → length xs ≤ length ys
no_more [] ys within = omega arith
no_more (x ∷ xs) ys within =
    let some : 1 ≤ times ys x = omega (arith, within x, one_same x x refl)
    in omega (arith, less_long x ys some, no_more xs (less x ys) (λ n. omega (arith, within n, less_times x n ys some)))

range_there : (count a n : ℕ) → a ≤ n → n < a + count → 1 ≤ times (range_with_len a count) n
range_there zero a n low high = absurd (omega (arith, low, high))
range_there (suc count) a n low high =
    elim (cases_lt a n) [
      | inl above ↦ omega (arith, range_there count (a + 1) n (omega (arith, above)) (omega (arith, high)))
      | inr le ↦ omega (arith, one_same a n (omega (arith, low, le)))
    ]

-- different numbers from 1 to the most are no more than that
pub few_numbers : (xs : List ℕ) (most : ℕ) → ((n : ℕ) → times xs n ≤ 1) → ((n : ℕ) → IsIn xs n → 1 ≤ n) → ((n : ℕ) → IsIn xs n → n ≤ most) → length xs ≤ most
few_numbers xs most once low high = omega (arith, length-range_with_len 1 most, no_more xs (range_with_len 1 most) (λ n. by n (times xs n) refl))
  where
    by : (n k : ℕ) → times xs n ≡ k → times xs n ≤ times (range_with_len 1 most) n
    by n zero e = omega (arith, e)
    by n (suc k) e =
        let is : IsIn xs n = times_in xs n (omega (arith, e))
        in omega (arith, once n, range_there most 1 n (low n is) (omega (arith, high n is)))

-- ---- the catalog's test

member_times : (x : ℕ) (xs : List ℕ) → is_member (eq_by_cmp nat_cmp) xs x ≡ true → 1 ≤ times xs x
member_times x [] e = cc
member_times x (y ∷ xs) e =
    elim (or_cases (eq_by_cmp nat_cmp x y) (is_member (eq_by_cmp nat_cmp) xs x) e) [
      | inl same ↦ omega (arith, one_same y x (sym (eqb-true x y (sym (unsigned_tied x y) ∙ same))))
      | inr later ↦ omega (arith, member_times x xs later)
    ]

pub all_distinct : (xs : List ℕ) → ((x : ℕ) → times xs x ≤ 1) → distinct_count (eq_by_cmp nat_cmp) xs ≡ length xs
all_distinct [] once = refl
all_distinct (x ∷ xs) once =
    let other : is_member (eq_by_cmp nat_cmp) xs x ≡ false =
    false_from_ne_true (is_member (eq_by_cmp nat_cmp) xs x) (λ there. omega (arith, once x, one_same x x refl, member_times x xs there))
    in rw other (ap suc (all_distinct xs (λ y. omega (arith, once y))))
