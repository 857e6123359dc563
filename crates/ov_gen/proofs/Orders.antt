-- Rows in strictly ascending key order.
use Rattle.std.proofs.Common.{◌≡◌, ℕ, ◌+◌, false, List, [], ◌∷◌, None, refl, ap, ◌∙◌}
use Rattle.std.specs.List.{AllByRecursion}
use Rattle.std.specs.List.Sorted.{IsStrictlySortedBy}
use Rattle.std.specs.Ordering.{is_eq, ordering_reverse}
use Rattle.std.specs.declared.cmp.Ordering.TheVariants.{Less}
use Rattle.ov_value.specs.Order.{key_cmp_total}
use Rattle.ov_value.specs.Rows.{key_cmp}
use Rattle.ov_value.specs.Shapes.{Shape}
use Rattle.ov_model.specs.Act.{repeated_key}
use Rattle.ov_model.specs.Book.{Row}
use Rattle.ov_model.specs.Merge.{has_key, in_key_order, placed}

module _ (schema : Shape) where
  placed-first : (row : Row) (rows : List Row) → AllByRecursion (λ r. key_cmp schema row r ≡ Less) rows → placed schema row rows ≡ row ∷ rows
  placed-first row [] above = refl
  placed-first row (r ∷ rows) (less, rest) = rw less refl

  pub in-order : (rows : List Row) → IsStrictlySortedBy (key_cmp schema) rows → in_key_order schema rows ≡ rows
  unfolding IsStrictlySortedBy
  in-order [] are = refl
  in-order (row ∷ rows) (above, rest) = ap (placed schema row) (in-order rows rest) ∙ placed-first row rows above

  -- each row of the first list has a lesser key than each row of the second
  abbrev Before : List Row → List Row → Type 0
  Before before rows = AllByRecursion (λ b. AllByRecursion (λ r. key_cmp schema b r ≡ Less) rows) before

  none-has : (row : Row) (rows before : List Row) → Before before (row ∷ rows) → has_key schema before row ≡ false
  none-has row rows [] are = refl
  none-has row rows (b ∷ before) ((less, _), rest) =
      let e : is_eq (key_cmp schema row b) ≡ false = ap is_eq ((key_cmp_total schema).antisymm row b ∙ ap ordering_reverse less) in
      rw e (none-has row rows before rest)

  tails : (row : Row) (rows before : List Row) → Before before (row ∷ rows) → Before before rows
  tails row rows [] are = are
  tails row rows (b ∷ before) ((_, above), rest) = (above, tails row rows before rest)

  pub not-repeated : (before rows : List Row) (nth : ℕ) → Before before rows → IsStrictlySortedBy (key_cmp schema) rows → repeated_key schema before nth rows ≡ None
  unfolding IsStrictlySortedBy
  not-repeated before [] nth apart are = refl
  not-repeated before (row ∷ rows) nth apart (above, rest) =
      rw (none-has row rows before apart) (not-repeated (row ∷ before) rows (nth + 1) (above, tails row rows before apart) rest)
