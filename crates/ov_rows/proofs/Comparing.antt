-- The order by key and number: sorted rows of a file rise by it.
use Rattle.std.proofs.Common.{◌≡◌, Some, None, ◌<◌, ◌⊎◌, ℕ, suc, ◌+◌, true, false, List, [], ◌∷◌, get_or, refl, sym, ◌∙◌, ap, subst, arith, inl, inr}
use Rattle.std.specs.List.{AllByRecursion, IsDistinct}
use Rattle.std.specs.List.Sorted.{IsPermutation, IsSorted}
use Rattle.std.specs.Cmp.{IsTotalOrder}
use Rattle.std.specs.Ordering.{nat_cmp, is_eq, is_lt, on, ordering_then, ordering_reverse, eq_by_cmp}
use Rattle.std.specs.declared.cmp.Ordering.{Ordering}
use Rattle.std.specs.declared.cmp.Ordering.TheVariants.{Less, Equal, Greater}
use Rattle.std.specs.List.Sorted.{IsStrictlySortedBy}
use Rattle.std.proofs.lemmas.Bool.Decides.{nat_tests}
use Rattle.std.proofs.lemmas.Cmp.{nat_cmp_total, on_total, then_total, eq_by_cmp_equiv}
use Rattle.std.proofs.lemmas.Map.Keys.{IsDistinct-from_sorted, IsDistinct-IsPermutation}
use Rattle.ov_value.specs.Rows.{key_cmp}
use Rattle.ov_value.specs.Order.{key_cmp_total}
use Rattle.ov_value.specs.Shapes.{Shape}
use Rattle.ov_model.specs.Book.{Row}
use Rattle.ov_model.specs.Lists.{Rises}
use Rattle.ov_rows.specs.FileRows.{FileRow, numbered, file_row_cmp}
use Rattle.ov_rows.proofs.Members.{below_all}

pub clash : false ≡ true → ⊥
clash e = cc

pub no_number : (n : ℕ) → Some n ≡ None → ⊥
no_number n e = cc

pub equal_is : (o : Ordering) → o ≡ Equal → is_eq o ≡ true
equal_is o e = ap is_eq e

pub not_less : (o : Ordering) → o ≡ Less → o ≡ Equal → ⊥
not_less o e f = wrong (sym e ∙ f)
  where
    wrong : Less ≡ Equal → ⊥
    wrong w = cc

pub is_equal : (o : Ordering) → is_eq o ≡ true → o ≡ Equal
is_equal Less e = cc
is_equal Equal e = refl
is_equal Greater e = cc

pub less_is : (m n : ℕ) → m < n → nat_cmp m n ≡ Less
less_is m n lt = grind (arith, nat_tests)

pub is_less : (m n : ℕ) → nat_cmp m n ≡ Less → m < n
is_less m n e = grind (arith, nat_tests)

-- less by key, or of the same key and less by number
pub parts : (o p : Ordering) → ordering_then o p ≡ Less → (o ≡ Less) ⊎ ((o ≡ Equal) × (p ≡ Less))
parts Less p e = inl refl
parts Equal p e = inr (refl, e)
parts Greater p e = cc

steps_up : (o p : Ordering) → is_lt (ordering_reverse (ordering_then o p)) ≡ false → is_eq p ≡ false → ordering_then o p ≡ Less
steps_up Less p e f = refl
steps_up Equal Less e f = refl
steps_up Equal Equal e f = cc
steps_up Equal Greater e f = cc
steps_up Greater p e f = cc

-- by number alone
abbrev by_number : FileRow → FileRow → Ordering
by_number = on (λ r. r.nth) nat_cmp

numbers_total : IsTotalOrder by_number
numbers_total = on_total (λ r. r.nth) nat_cmp_total

numbers_above : (r : FileRow) (nth : ℕ) (rows : List Row) → r.nth < nth → AllByRecursion (λ z. by_number r z ≡ Less) (numbered nth rows)
numbers_above r nth [] lt = tt
numbers_above r nth (row ∷ rows) lt = (less_is r.nth nth lt, numbers_above r (nth + 1) rows (omega (arith, lt)))

numbers_rise : (nth : ℕ) (rows : List Row) → IsStrictlySortedBy by_number (numbered nth rows)
unfolding IsStrictlySortedBy
numbers_rise nth [] = tt
numbers_rise nth (row ∷ rows) = (numbers_above (record { row = row; nth = nth }) (nth + 1) rows (omega arith), numbers_rise (nth + 1) rows)

module _ (schema : Shape) where
  pub file_rows_total : IsTotalOrder (file_row_cmp schema)
  file_rows_total = then_total (on_total (λ r. r.row) (key_cmp_total schema)) (on_total (λ r. r.nth) nat_cmp_total)

  sorted_tail : (x : FileRow) (xs : List FileRow) → IsSorted (file_row_cmp schema) (x ∷ xs) → IsSorted (file_row_cmp schema) xs
  sorted_tail x xs up k d from within =
      let same : suc k + 1 ≡ suc (k + 1) = omega arith in
      subst (λ i. is_lt (file_row_cmp schema (get_or (x ∷ xs) i d) (get_or xs k d)) ≡ false) same (up (suc k) d (omega arith) (omega arith))

  rise_from : (rows : List FileRow) → IsSorted (file_row_cmp schema) rows → IsDistinct (eq_by_cmp by_number) rows → Rises (file_row_cmp schema) rows
  unfolding IsDistinct
  rise_from [] up apart = tt
  rise_from (x ∷ []) up apart = (tt, tt)
  rise_from (x ∷ y ∷ rows) up apart =
      let tail = rise_from (y ∷ rows) (sorted_tail x (y ∷ rows) up) apart.1 in
      let step : file_row_cmp schema x y ≡ Less =
      steps_up (key_cmp schema x.row y.row) (nat_cmp x.nth y.nth)
      (ap is_lt (sym (file_rows_total.antisymm y x)) ∙ up 0 x (omega arith) (omega arith))
      apart.0.0
      in ((step, below_all (file_row_cmp schema) file_rows_total x y rows step tail.0), tail)

  -- the rows of a file, sorted
  pub sorted_rise : (rows : List Row) (lines : List FileRow) → IsPermutation (numbered 1 rows) lines → IsSorted (file_row_cmp schema) lines → Rises (file_row_cmp schema) lines
  sorted_rise rows lines moved up =
      rise_from lines up
      (IsDistinct-IsPermutation (eq_by_cmp by_number) ((eq_by_cmp_equiv numbers_total).symm) (numbered 1 rows) lines moved
      (IsDistinct-from_sorted by_number (numbered 1 rows) (numbers_rise 1 rows)))
