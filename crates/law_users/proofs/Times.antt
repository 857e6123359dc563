-- How many of the rows have a key: in rows that rise at most one, and in these rows in another order as many.
use Rattle.std.proofs.Common.{◌≡◌, ◌≤◌, ◌⊎◌, ℕ, ◌+◌, Bool, true, false, List, [], ◌∷◌, inl, inr, refl, sym, ◌∙◌, ap, subst, arith}
use Rattle.std.specs.Prelude.{◌||◌, if◌then◌else◌, Some, None}
use Rattle.std.specs.List.{sum_by}
use Rattle.std.specs.List.Sorted.{IsPermutation}
use Rattle.std.specs.Ordering.{is_eq, ordering_reverse}
use Rattle.std.specs.declared.cmp.Ordering.{Ordering}
use Rattle.std.specs.declared.cmp.Ordering.TheVariants.{Less, Equal, Greater}
use Rattle.std.proofs.lemmas.Bool.{cond-false}
use Rattle.std.proofs.lemmas.List.Sorted.{sum_by-IsPermutation}
use Rattle.std.proofs.lemmas.List.Sums.{sum_by-cons}
use Rattle.ov_value.specs.Order.{key_cmp_total}
use Rattle.ov_value.specs.Rows.{key_cmp}
use Rattle.ov_value.specs.Shapes.{Shape}
use Rattle.ov_model.specs.Act.{repeated_key}
use Rattle.ov_model.specs.Book.{Row}
use Rattle.ov_model.specs.Lists.{IsBelow, IsIn, Rises}
use Rattle.ov_model.specs.Merge.{has_key}
use Rattle.ov_model.specs.declared.refusal.Refusal.TheVariants as no

abbrev tie : Bool → ℕ
tie true = 1
tie false = 0

is_equal : (o : Ordering) → is_eq o ≡ true → o ≡ Equal
is_equal Less e = cc
is_equal Equal e = refl
is_equal Greater e = cc

turned_equal : (o : Ordering) → o ≡ Equal → ordering_reverse o ≡ Equal
turned_equal Less e = cc
turned_equal Equal e = refl
turned_equal Greater e = cc

own_equal : (o : Ordering) → o ≡ ordering_reverse o → o ≡ Equal
own_equal Less e = cc
own_equal Equal e = refl
own_equal Greater e = cc

module _ (schema : Shape) where
  abbrev R : Row → Row → Ordering
  R = key_cmp schema

  abbrev has : Row → Row → ℕ
  has x r = tie (is_eq (R x r))

  abbrev times : Row → List Row → ℕ
  times x rows = sum_by (has x) rows

  no_ties : (x r : Row) → R x r ≡ Less → has x r ≡ 0
  no_ties x r less = ap (λ o. tie (is_eq o)) less

  none_above : (x r : Row) (rows : List Row) → R x r ≡ Equal → IsBelow R r rows → times x rows ≡ 0
  none_above x r [] same below = refl
  none_above x r (y ∷ rows) same below =
      let first : has x y ≡ 0 = no_ties x y ((key_cmp_total schema).congr x r y same ∙ below.0)
      in omega (arith, sum_by-cons (has x) y rows, first, none_above x r rows same below.1)

  rising_times : (x : Row) (rows : List Row) → Rises R rows → times x rows ≤ 1
  rising_times x [] rises = omega arith
  rising_times x (r ∷ rows) rises = by (R x r) refl (rising_times x rows rises.1)
    where
      other : (o : Ordering) → R x r ≡ o → tie (is_eq o) ≡ 0 → times x rows ≤ 1 → times x (r ∷ rows) ≤ 1
      other o is none rest = omega (arith, sum_by-cons (has x) r rows, ap (λ p. tie (is_eq p)) is, none, rest)

      by : (o : Ordering) → R x r ≡ o → times x rows ≤ 1 → times x (r ∷ rows) ≤ 1
      by Less is rest = other Less is refl rest
      by Equal is rest =
          let first : has x r ≡ 1 = ap (λ p. tie (is_eq p)) is
          in omega (arith, sum_by-cons (has x) r rows, first, none_above x r rows is rises.0)
      by Greater is rest = other Greater is refl rest

  some_times : (x y : Row) (rows : List Row) → IsIn rows y → R x y ≡ Equal → 1 ≤ times x rows
  some_times x y [] is same = absurd is
  some_times x y (r ∷ rows) (inl here) same =
      let first : has x r ≡ 1 = ap (λ (z : Row). has x z) (sym here) ∙ ap (λ o. tie (is_eq o)) same
      in omega (arith, sum_by-cons (has x) r rows, first)
  some_times x y (r ∷ rows) (inr later) same = omega (arith, sum_by-cons (has x) r rows, some_times x y rows later same)

  self : (x : Row) → R x x ≡ Equal
  self x = own_equal (R x x) ((key_cmp_total schema).antisymm x x)

  -- none of the rows before has the key of one of these
  abbrev AreNew : List Row → List Row → Type 0
  AreNew before [] = Unit {0}
  AreNew before (x ∷ xs) = (has_key schema before x ≡ false) × AreNew before xs

  apart : (y x : Row) (rows : List Row) → IsIn rows x → times y (y ∷ rows) ≤ 1 → is_eq (R x y) ≡ false
  apart y x rows is few = by (is_eq (R x y)) refl
    where
      by : (b : Bool) → is_eq (R x y) ≡ b → b ≡ false
      by false e = refl
      by true e =
          let turned : R y x ≡ Equal = (key_cmp_total schema).antisymm y x ∙ turned_equal (R x y) (is_equal (R x y) e)
          in let first : has y y ≡ 1 = ap (λ o. tie (is_eq o)) (self y)
          in absurd (omega (arith, few, sum_by-cons (has y) y rows, first, some_times y x rows is turned))

  or_none : (a b : Bool) → a ≡ false → b ≡ false → (a || b) ≡ false
  or_none true b e f = cc
  or_none false b e f = f

  new_more : (y : Row) (before rows xs : List Row) → ((x : Row) → IsIn xs x → IsIn rows x) → times y (y ∷ rows) ≤ 1 → AreNew before xs → AreNew (y ∷ before) xs
  new_more y before rows [] among few new = tt
  new_more y before rows (x ∷ xs) among few new = (
    or_none (is_eq (R x y)) (has_key schema before x) (apart y x rows (among x (inl refl)) few) new.0,
    new_more y before rows xs (λ z is. among z (inr is)) few new.1,
  )

  once_from : (before rows : List Row) (nth : ℕ) → AreNew before rows → ((x : Row) → times x rows ≤ 1) → repeated_key schema before nth rows ≡ None
  once_from before [] nth new few = refl
  once_from before (y ∷ rows) nth new few =
      cond-false (has_key schema before y) (Some (no.DuplicateKey nth)) (repeated_key schema (y ∷ before) (nth + 1) rows) new.0
      ∙ once_from (y ∷ before) rows (nth + 1) (new_more y before rows rows (λ x is. is) (few y) new.1) (λ x. omega (arith, few x, sum_by-cons (has x) y rows))

  all_new : (rows : List Row) → AreNew [] rows
  all_new [] = tt
  all_new (x ∷ xs) = (refl, all_new xs)

  -- no key stands twice among these rows, in whatever order
  pub moved_once : (rows moved : List Row) → IsPermutation rows moved → Rises R rows → repeated_key schema [] 1 moved ≡ None
  moved_once rows moved is rises =
      once_from [] moved 1 (all_new moved) (λ x. omega (arith, sum_by-IsPermutation (has x) rows moved is, rising_times x rows rises))
