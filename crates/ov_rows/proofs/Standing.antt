-- Rows that stand in key order: no key stands twice, and they are the rows in key order.
use Rattle.std.proofs.Common.{◌≡◌, ◌<◌, ◌≤◌, ℕ, zero, suc, ◌+◌, ◌-◌, true, false, inl, inr, List, [], ◌∷◌, length, map, get_or, None, Some, refl, sym, ◌∙◌, ap, subst, arith}
use Rattle.std.specs.List.{AllAdjacentBelow}
use Rattle.std.specs.Cmp.{IsTotalOrder}
use Rattle.std.specs.Ordering.{nat_cmp, is_eq, is_lt, ordering_then}
use Rattle.std.specs.declared.cmp.Ordering.{Ordering}
use Rattle.std.specs.declared.cmp.Ordering.TheVariants.{Less, Equal, Greater}
use Rattle.std.proofs.lemmas.Bool.{cases_lt, cond-false, true≢false}
use Rattle.std.proofs.lemmas.List.Sorted.{IsPermutation-refl}
use Rattle.ov_value.specs.Rows.{key_cmp}
use Rattle.ov_value.specs.Shapes.{Shape}
use Rattle.ov_model.specs.Book.{Row}
use Rattle.ov_model.specs.Lists.{IsBelow, Rises}
use Rattle.ov_model.specs.Merge.{in_key_order}
use Rattle.ov_rows.specs.FileRows.{FileRow, numbered, file_row_cmp, lesser, least_behind, least_repeat}
use Rattle.ov_rows.specs.Refusing.{first_repeat}
use Rattle.ov_rows.proofs.Members.{below_all}
use Rattle.ov_rows.proofs.Numbering.{row_of, rows_of_numbered}
use Rattle.ov_rows.proofs.Ordered.{sorted_is_order}
use Rattle.ov_rows.proofs.Repeating.{least_is_first}

pub not_less_of : (o : Ordering) → is_lt o ≡ false → o ≡ Less → ⊥
not_less_of Less e less = true≢false e
not_less_of Equal e less = cc
not_less_of Greater e less = cc

pub less_of : (o : Ordering) → is_lt o ≡ true → o ≡ Less
less_of Less e = refl
less_of Equal e = cc
less_of Greater e = cc

module _ {X : Type 0} (R : X → X → Ordering) where
  -- each is below the one behind it
  abbrev pub Climbs : List X → ℕ → Type 0
  Climbs xs high = AllAdjacentBelow (λ x y. R x y ≡ Less) xs high

  get_same : (xs : List X) (i : ℕ) (a d : X) → i < length xs → get_or xs i a ≡ get_or xs i d
  get_same [] i a d low = absurd (omega (arith, low))
  get_same (x ∷ xs) zero a d low = refl
  get_same (x ∷ xs) (suc i) a d low = get_same xs i a d (omega (arith, low))

  -- one step more
  pub climb_more : (xs : List X) (i : ℕ) (a d : X) → 1 ≤ i → i < length xs → Climbs xs i → R (get_or xs (i - 1) a) (get_or xs i d) ≡ Less → Climbs xs (i + 1)
  climb_more xs i a d from within up step k e low =
      elim (cases_lt (k + 1) i) [
        | inl before ↦ up k e before
        | inr at ↦
            let last : k + 1 ≡ i = omega (arith, at, low) in
            let here : k ≡ i - 1 = omega (arith, last) in
            (λ j. R (get_or xs (here j) e) (get_or xs (last j) e))
            ∙ (λ j. R (get_same xs (i - 1) e a (omega (arith, from, within)) j) (get_same xs i e d within j))
            ∙ step
      ]

  pub rise_of : IsTotalOrder R → (xs : List X) → Climbs xs (length xs) → Rises R xs
  rise_of o [] up = tt
  rise_of o (x ∷ []) up = (tt, tt)
  rise_of o (x ∷ y ∷ ys) up =
      let tail = rise_of o (y ∷ ys) (λ k d low. subst (λ i. R (get_or (y ∷ ys) k d) (get_or (x ∷ y ∷ ys) i d) ≡ Less) (next k) (up (suc k) d (omega (arith, low)))) in
      let step : R x y ≡ Less = up 0 y (omega arith) in
      ((step, below_all R o x y ys step tail.0), tail)
    where
      next : (k : ℕ) → suc k + 1 ≡ suc (k + 1)
      next k = omega arith

  pub step_of : (xs : List X) (k : ℕ) (d : X) → Rises R xs → k + 1 < length xs → R (get_or xs k d) (get_or xs (k + 1) d) ≡ Less
  step_of [] k d up low = absurd (omega (arith, low))
  step_of (x ∷ []) k d up low = absurd (omega (arith, low))
  step_of (x ∷ y ∷ ys) zero d up low = up.0.0
  step_of (x ∷ y ∷ ys) (suc k) d up low =
      let next : suc (k + 1) ≡ suc k + 1 = omega arith in
      subst (λ i. R (get_or (y ∷ ys) k d) (get_or (x ∷ y ∷ ys) i d) ≡ Less) next (step_of (y ∷ ys) k d up.1 (omega (arith, low)))

module _ (schema : Shape) where
  below_lines : (a : FileRow) (lines : List FileRow) → IsBelow (key_cmp schema) a.row (map row_of lines) → IsBelow (file_row_cmp schema) a lines
  below_lines a [] below = tt
  below_lines a (b ∷ lines) below = (ap (λ o. ordering_then o (nat_cmp a.nth b.nth)) below.0, below_lines a lines below.1)

  pub lines_rise : (lines : List FileRow) → Rises (key_cmp schema) (map row_of lines) → Rises (file_row_cmp schema) lines
  lines_rise [] up = tt
  lines_rise (a ∷ lines) up = (below_lines a lines up.0, lines_rise lines up.1)

  none_behind : (a : FileRow) (lines : List FileRow) → IsBelow (key_cmp schema) a.row (map row_of lines) → Rises (key_cmp schema) (map row_of lines) → least_behind schema None a lines ≡ None
  none_behind a [] below up = refl
  none_behind a (b ∷ lines) below up =
      ap (λ least. least_behind schema least b lines) (cond-false _ (Some (lesser None b.nth)) None (ap is_eq below.0))
      ∙ none_behind b lines up.0 up.1

  pub no_repeat : (lines : List FileRow) → Rises (key_cmp schema) (map row_of lines) → least_repeat schema None lines ≡ None
  no_repeat [] up = refl
  no_repeat (a ∷ lines) up = none_behind a lines up.0 up.1

  as_lines : (rows : List Row) → Rises (key_cmp schema) rows → Rises (key_cmp schema) (map row_of (numbered 1 rows))
  as_lines rows up = subst (Rises (key_cmp schema)) (sym (rows_of_numbered 1 rows)) up

  pub none_repeated : (rows : List Row) → Rises (key_cmp schema) rows → first_repeat schema [] 1 rows ≡ None
  none_repeated rows up = least_is_first schema rows (numbered 1 rows) None (IsPermutation-refl (numbered 1 rows)) (lines_rise (numbered 1 rows) (as_lines rows up)) (no_repeat (numbered 1 rows) (as_lines rows up))

  pub stands : (rows : List Row) → Rises (key_cmp schema) rows → rows ≡ in_key_order schema rows
  stands rows up =
      sym (rows_of_numbered 1 rows)
      ∙ sorted_is_order schema rows (numbered 1 rows) (IsPermutation-refl (numbered 1 rows)) (lines_rise (numbered 1 rows) (as_lines rows up)) (no_repeat (numbered 1 rows) (as_lines rows up))
