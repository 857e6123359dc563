-- Rows of the registry in the order of their keys: no key twice, one more, one less.
use Rattle.std.proofs.Common.{◌≡◌, ℕ, suc, ◌+◌, Bool, true, false, List, [], ◌∷◌, ◌++◌, length, filter, refl, ◌∙◌, ap, append-nil}
use Rattle.std.specs.Prelude.{◌||◌, if◌then◌else◌, Option, Some, None}
use Rattle.std.specs.Ordering.{is_eq, is_lt, ordering_reverse}
use Rattle.std.specs.declared.cmp.Ordering.{Ordering}
use Rattle.std.specs.declared.cmp.Ordering.TheVariants.{Less, Equal, Greater}
use Rattle.std.proofs.lemmas.Bool.{cond-true, cond-false}
use Rattle.ov_value.specs.Order.{key_cmp_total}
use Rattle.ov_value.specs.Rows.{key_cmp}
use Rattle.ov_value.specs.Shapes.{Shape}
use Rattle.ov_model.specs.Act.{repeated_key}
use Rattle.ov_model.specs.Book.{Row}
use Rattle.ov_model.specs.Lists.{IsBelow, Rises}
use Rattle.ov_model.specs.Merge.{firsts, has_key, in_key_order, placed}
use Rattle.ov_model.specs.Registry.{version_rows}
use Rattle.ov_model.specs.declared.refusal.Refusal.{Refusal}
use Rattle.ov_model.specs.declared.refusal.Refusal.TheVariants as no

or_swap : (a b c : Bool) → (a || (b || c)) ≡ (b || (a || c))
or_swap true true c = refl
or_swap true false c = refl
or_swap false true c = refl
or_swap false false c = refl

or_none : (a b : Bool) → a ≡ false → b ≡ false → (a || b) ≡ false
or_none true b e f = cc
or_none false b e f = f

left_none : (a b : Bool) → (a || b) ≡ false → a ≡ false
left_none true b e = cc
left_none false b e = refl

right_none : (a b : Bool) → (a || b) ≡ false → b ≡ false
right_none true b e = cc
right_none false b e = e

not_refused : (t : Bool) (refusal : Refusal) (rest : Option Refusal) → (if t then Some refusal else rest) ≡ None → (t ≡ false) × (rest ≡ None)
not_refused true refusal rest e = cc
not_refused false refusal rest e = (refl, e)

above_new : (o : Ordering) → o ≡ Less → is_eq (ordering_reverse o) ≡ false
above_new Less e = refl
above_new Equal e = cc
above_new Greater e = refl

module _ (schema : Shape) where
  flip : (a b : Row) → key_cmp schema a b ≡ ordering_reverse (key_cmp schema b a)
  flip a b = (key_cmp_total schema).antisymm a b

  known_append : (seen : List Row) (row x : Row) → has_key schema (seen ++ row ∷ []) x ≡ (is_eq (key_cmp schema x row) || has_key schema seen x)
  known_append [] row x = refl
  known_append (y ∷ seen) row x =
      ap (λ t. is_eq (key_cmp schema x y) || t) (known_append seen row x)
      ∙ or_swap (is_eq (key_cmp schema x y)) (is_eq (key_cmp schema x row)) (has_key schema seen x)

  -- ---- rows without a key twice

  firsts_all : (rows seen before : List Row) (nth : ℕ) → ((x : Row) → has_key schema seen x ≡ has_key schema before x) → repeated_key schema before nth rows ≡ None → firsts schema seen rows ≡ rows
  firsts_all [] seen before nth same e = refl
  firsts_all (row ∷ rows) seen before nth same e =
      let passes = not_refused (has_key schema before row) (no.DuplicateKey nth) (repeated_key schema (row ∷ before) (nth + 1) rows) e
      in cond-false (has_key schema seen row) (firsts schema (seen ++ row ∷ []) rows) (row ∷ firsts schema (seen ++ row ∷ []) rows) (same row ∙ passes.0)
      ∙ ap (λ l. row ∷ l)
      (firsts_all rows (seen ++ row ∷ []) (row ∷ before) (nth + 1)
      (λ x. known_append seen row x ∙ ap (λ t. is_eq (key_cmp schema x row) || t) (same x)) passes.1)

  pub once_ordered : (rows : List Row) → repeated_key schema [] 1 rows ≡ None → version_rows schema rows ≡ in_key_order schema rows
  once_ordered rows e =
      ap (λ l. in_key_order schema (firsts schema [] l)) (append-nil rows)
      ∙ ap (in_key_order schema) (firsts_all rows [] [] 1 (λ x. refl) e)

  append_from : (rows before : List Row) (nth : ℕ) (row : Row) → repeated_key schema before nth rows ≡ None → has_key schema rows row ≡ false → has_key schema before row ≡ false
      → repeated_key schema before nth (rows ++ row ∷ []) ≡ None
  append_from [] before nth row e new seen = cond-false (has_key schema before row) (Some (no.DuplicateKey nth)) None seen
  append_from (r ∷ rows) before nth row e new seen =
      let passes = not_refused (has_key schema before r) (no.DuplicateKey nth) (repeated_key schema (r ∷ before) (nth + 1) rows) e
      in cond-false (has_key schema before r) (Some (no.DuplicateKey nth)) (repeated_key schema (r ∷ before) (nth + 1) (rows ++ row ∷ [])) passes.0
      ∙ append_from rows (r ∷ before) (nth + 1) row passes.1 (right_none (is_eq (key_cmp schema row r)) (has_key schema rows row) new)
      (or_none (is_eq (key_cmp schema row r)) (has_key schema before row) (left_none (is_eq (key_cmp schema row r)) (has_key schema rows row) new) seen)

  -- with one more, whose key is new
  pub once_more : (rows : List Row) (row : Row) → repeated_key schema [] 1 rows ≡ None → has_key schema rows row ≡ false → repeated_key schema [] 1 (rows ++ row ∷ []) ≡ None
  once_more rows row e new = append_from rows [] 1 row e new refl

  -- ---- rows that rise

  -- none of the rows before has the key of one of these
  abbrev AreNew : List Row → List Row → Type 0
  AreNew before [] = Unit {0}
  AreNew before (x ∷ xs) = (has_key schema before x ≡ false) × AreNew before xs

  new_more : (row : Row) (before rows : List Row) → IsBelow (key_cmp schema) row rows → AreNew before rows → AreNew (row ∷ before) rows
  new_more row before [] below are = tt
  new_more row before (x ∷ xs) below are = (
    or_none (is_eq (key_cmp schema x row)) (has_key schema before x) (ap is_eq (flip x row) ∙ above_new (key_cmp schema row x) below.0) are.0,
    new_more row before xs below.1 are.1,
  )

  rising_from : (before rows : List Row) (nth : ℕ) → AreNew before rows → Rises (key_cmp schema) rows → repeated_key schema before nth rows ≡ None
  rising_from before [] nth are rises = refl
  rising_from before (row ∷ rows) nth are rises =
      cond-false (has_key schema before row) (Some (no.DuplicateKey nth)) (repeated_key schema (row ∷ before) (nth + 1) rows) are.0
      ∙ rising_from (row ∷ before) rows (nth + 1) (new_more row before rows rises.0 are.1) rises.1

  all_new : (rows : List Row) → AreNew [] rows
  all_new [] = tt
  all_new (x ∷ xs) = (refl, all_new xs)

  pub rising_once : (rows : List Row) → Rises (key_cmp schema) rows → repeated_key schema [] 1 rows ≡ None
  rising_once rows rises = rising_from [] rows 1 (all_new rows) rises

  placed_first : (row : Row) (rows : List Row) → IsBelow (key_cmp schema) row rows → placed schema row rows ≡ row ∷ rows
  placed_first row [] below = refl
  placed_first row (r ∷ rows) below =
      cond-true (is_lt (key_cmp schema row r)) (row ∷ r ∷ rows) (r ∷ placed schema row rows) (ap is_lt below.0)

  pub rising_ordered : (rows : List Row) → Rises (key_cmp schema) rows → in_key_order schema rows ≡ rows
  rising_ordered [] rises = refl
  rising_ordered (row ∷ rows) rises = ap (placed schema row) (rising_ordered rows rises.1) ∙ placed_first row rows rises.0

  below_if : (t : Bool) (x y : Row) (rest : List Row) → key_cmp schema x y ≡ Less → IsBelow (key_cmp schema) x rest → IsBelow (key_cmp schema) x (if t then y ∷ rest else rest)
  below_if true x y rest less below = (less, below)
  below_if false x y rest less below = below

  below_filter : (p : Row → Bool) (x : Row) (rows : List Row) → IsBelow (key_cmp schema) x rows → IsBelow (key_cmp schema) x (filter p rows)
  below_filter p x [] below = tt
  below_filter p x (y ∷ rows) below = below_if (p y) x y (filter p rows) below.0 (below_filter p x rows below.1)

  rises_if : (t : Bool) (x : Row) (rest : List Row) → IsBelow (key_cmp schema) x rest → Rises (key_cmp schema) rest → Rises (key_cmp schema) (if t then x ∷ rest else rest)
  rises_if true x rest below rises = (below, rises)
  rises_if false x rest below rises = rises

  pub rising_filter : (p : Row → Bool) (rows : List Row) → Rises (key_cmp schema) rows → Rises (key_cmp schema) (filter p rows)
  rising_filter p [] rises = tt
  rising_filter p (x ∷ rows) rises = rises_if (p x) x (filter p rows) (below_filter p x rows rises.0) (rising_filter p rows rises.1)

  -- ---- as many

  length_placed : (row : Row) (rows : List Row) → length (placed schema row rows) ≡ suc (length rows)
  length_placed row [] = refl
  length_placed row (r ∷ rows) = by (is_lt (key_cmp schema row r)) (length_placed row rows)
    where
      by : (b : Bool) → length (placed schema row rows) ≡ suc (length rows) → length (if b then row ∷ r ∷ rows else r ∷ placed schema row rows) ≡ suc (length (r ∷ rows))
      by true e = refl
      by false e = ap suc e

  pub length_ordered : (rows : List Row) → length (in_key_order schema rows) ≡ length rows
  length_ordered [] = refl
  length_ordered (row ∷ rows) = length_placed row (in_key_order schema rows) ∙ ap suc (length_ordered rows)
