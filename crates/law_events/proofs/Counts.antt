-- Records of which none stands twice: as many as there are among others at most.
use Rattle.std.proofs.Common.{◌≡◌, ◌≤◌, ℕ, suc, ◌+◌, Bool, true, false, ◌==◌, List, [], ◌∷◌, ◌++◌, length, filter, refl, sym, ◌∙◌, ap, subst, inl, inr, arith}
use Rattle.std.specs.Prelude.{not, if◌then◌else◌}
use Rattle.std.specs.Ordering.{nat_cmp, eq_by_cmp}
use Rattle.std.specs.Cmp.{unsigned_tied}
use Rattle.std.specs.Set.{distinct_count, is_member}
use Rattle.std.specs.declared.cmp.Ordering.{Ordering}
use Rattle.std.specs.declared.cmp.Ordering.TheVariants.{Less, Equal}
use Rattle.std.proofs.lemmas.Bool.{cases_Bool, eqb-true, false_from_ne_true, not_from_false, or_cases}
use Rattle.std.proofs.lemmas.List.Sums.{length-filter}
use Rattle.ov_value.specs.Order.{key_cmp-ties_decide}
use Rattle.ov_value.specs.Rows.{key_cmp, key_of}
use Rattle.ov_value.specs.Shapes.{Shape}
use Rattle.ov_model.specs.Book.{Row, Version}
use Rattle.ov_model.specs.Lists.{IsIn, AreIn, AllAreIn, IsBelow, Rises, joined}
use Rattle.ov_model.specs.Placed.{times}
use Rattle.ov_model.specs.Records.{Rec, is_same_row, is_same_rec, is_among, weight, records_of, fresh_in, order}
use Rattle.ov_model.proofs.Counting.{one_if, one_same}
use Rattle.ov_model.proofs.Growing.{same_rec-refl}
use Rattle.ov_model.proofs.Origins.{in_filter}
use Rattle.ov_model.proofs.Widening.{same_rows}
use Rattle.law_partitions.specs.Pieces.{NoTwice, row_times}
use Rattle.law_partitions.proofs.PieceLists.{among_in, in_either, in_filtered}
use Rattle.law_partitions.proofs.PieceTimes.{in_times, times-filter, records_once}
use Rattle.law_partitions.proofs.PlanNodes.{filter_most}

-- ---- no more than there are

abbrev others : Rec → List Rec → List Rec
others x ys = filter (λ y. not (is_same_rec y x)) ys

fewer : (x : Rec) (ys : List Rec) → IsIn ys x → length (others x ys) + 1 ≤ length ys
fewer x [] is = absurd is
fewer x (y ∷ ys) (inl same) = by (is_same_rec y x) (subst (λ z. is_same_rec z x ≡ true) same (same_rec-refl x))
  where
    by : (b : Bool) → b ≡ true → length (if not b then y ∷ others x ys else others x ys) + 1 ≤ length (y ∷ ys)
    by true e = omega (arith, filter_most (λ z. not (is_same_rec z x)) ys)
    by false e = cc
fewer x (y ∷ ys) (inr later) = by (is_same_rec y x) (fewer x ys later)
  where
    by : (b : Bool) → length (others x ys) + 1 ≤ length ys → length (if not b then y ∷ others x ys else others x ys) + 1 ≤ length (y ∷ ys)
    by true rest = omega (arith, rest)
    by false rest = omega (arith, rest)

apart : (x r : Rec) (xs : List Rec) → NoTwice (x ∷ xs) → IsIn xs r → is_same_rec r x ≡ false
apart x r xs once is = false_from_ne_true (is_same_rec r x) (λ same. omega (arith, once r, ap one_if same, in_times xs r is))

pub no_more : (xs ys : List Rec) → NoTwice xs → ((r : Rec) → IsIn xs r → IsIn ys r) → length xs ≤ length ys
no_more [] ys once are = omega arith
no_more (x ∷ xs) ys once are =
    omega (
      arith,
      fewer x ys (are x (inl refl)),
      no_more xs (others x ys) (λ r. omega (arith, once r))
          (λ r is. in_filter (λ y. not (is_same_rec y x)) ys r (not_from_false (is_same_rec r x) (apart x r xs once is)) (are r (inr is))),
    )

-- ---- members

pub are_at : (rs all : List Rec) (r : Rec) → AreIn rs all → IsIn rs r → IsIn all r
are_at [] all r are is = absurd is
are_at (x ∷ rs) all r are (inl same) = subst (IsIn all) (sym same) are.0
are_at (x ∷ rs) all r are (inr later) = are_at rs all r are.1 later

pub joined_at : (pieces : List (List Rec)) (all : List Rec) (r : Rec) → AllAreIn pieces all → IsIn (joined pieces) r → IsIn all r
joined_at [] all r are is = absurd is
joined_at (piece ∷ pieces) all r are is =
    elim (in_either piece (joined pieces) r is) [
      | inl here ↦ are_at piece all r are.0 here
      | inr later ↦ joined_at pieces all r are.1 later
    ]

pub last_are : (done : List (List Rec)) (l all : List Rec) → AllAreIn (done ++ l ∷ []) all → AreIn l all
last_are [] l all are = are.0
last_are (x ∷ done) l all are = last_are done l all are.1

-- the origins of all records
pub order_low : (rss : List (List Rec)) (n : ℕ) (r : Rec) → IsIn (order rss n) r → r.origin + 1 ≤ n + length rss
order_low [] n r is = absurd is
order_low (rs ∷ rss) n r is =
    elim (in_either (fresh_in rs n) (order rss (n + 1)) r is) [
      | inl here ↦ omega (arith, eqb-true r.origin n (in_filtered (λ x. x.origin == n) rs r here).1)
      | inr later ↦ omega (arith, order_low rss (n + 1) r later)
    ]

-- ---- rows that rise

below_none : (schema : Shape) (row : Row) (rows : List Row) → IsBelow (key_cmp schema) row rows → row_times rows row ≡ 0
below_none schema row [] below = refl
below_none schema row (x ∷ rows) below = omega (arith, other (is_same_row row x) refl, below_none schema row rows below.1)
  where
    clash : {o : Ordering} → o ≡ Less → o ≡ Equal → ⊥
    clash e f = cc

    other : (t : Bool) → is_same_row row x ≡ t → one_if (is_same_row row x) ≡ 0
    other false e = ap one_if e
    other true e = absurd (clash below.0 ((key_cmp-ties_decide schema row x).1 (ap (key_of schema) (same_rows row x e))))

rise_once : (schema : Shape) (rows : List Row) → Rises (key_cmp schema) rows → (row : Row) → row_times rows row ≤ 1
rise_once schema [] rises row = omega arith
rise_once schema (x ∷ rows) rises row =
    elim (cases_Bool (is_same_row row x)) [
      | inl same ↦ omega (arith, ap one_if same, ap (row_times rows) (same_rows row x same), below_none schema x rows rises.0)
      | inr other ↦ omega (arith, ap one_if other, rise_once schema rows rises.1 row)
    ]

pub ours_once : (schema : Shape) (v : Version) (done : List (List Rec)) → Rises (key_cmp schema) v.rows → NoTwice (records_of v done)
ours_once schema v done rises = records_once v done (rise_once schema v.rows rises)

-- ---- weights

pub weight_own : (a b : List Rec) → weight a b ≤ length a
weight_own a b = omega (arith, length-filter (is_among b) a, filter_most (is_among b) a)

pub weight_other : (a b : List Rec) → NoTwice a → weight a b ≤ length b
weight_other a b once =
    omega (
      arith,
      length-filter (is_among b) a,
      no_more (filter (is_among b) a) b (λ r. omega (arith, times-filter (is_among b) a r, once r)) (λ r is. among_in b r (in_filtered (is_among b) a r is).1),
    )

-- ---- numbers that stand once

member_times : (x : ℕ) (xs : List ℕ) → is_member (eq_by_cmp nat_cmp) xs x ≡ true → 1 ≤ times xs x
member_times x [] e = cc
member_times x (y ∷ xs) e =
    elim (or_cases (eq_by_cmp nat_cmp x y) (is_member (eq_by_cmp nat_cmp) xs x) e) [
      | inl same ↦ omega (arith, one_same y x (sym (eqb-true x y (sym (unsigned_tied x y) ∙ same))))
      | inr later ↦ omega (arith, member_times x xs later)
    ]

pub all_distinct : (xs : List ℕ) → ((x : ℕ) → times xs x ≤ 1) → distinct_count (eq_by_cmp nat_cmp) xs ≡ length xs
all_distinct [] once = refl
all_distinct (x ∷ xs) once =
    let other : is_member (eq_by_cmp nat_cmp) xs x ≡ false =
    false_from_ne_true (is_member (eq_by_cmp nat_cmp) xs x) (λ there. omega (arith, once x, one_same x x refl, member_times x xs there))
    in rw other (ap suc (all_distinct xs (λ y. omega (arith, once y))))
