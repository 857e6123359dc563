-- Rows of new versions rise by their keys: those of a file without a repeated key, and those of the generator.
use Rattle.std.proofs.Common.{◌≡◌, ◌≤◌, ◌<◌, ℕ, zero, suc, ◌+◌, ◌/◌, Bool, true, false, ◌==◌, pos, negsuc, List, [], ◌∷◌, ◌++◌, map, refl, sym, ◌∙◌, ap, subst, arith, append-nil}
use Rattle.std.specs.Prelude.{◌||◌, nat_lt, if◌then◌else◌, Option, Some, None}
use Rattle.std.specs.Ordering.{int_cmp, is_eq, ordering_then}
use Rattle.std.specs.declared.cmp.Ordering.TheVariants.{Less, Equal, Greater}
use Rattle.std.specs.Cmp.Lexicographic.{slice_cmp}
use Rattle.std.proofs.lemmas.Bool.{cond-true, cond-false, lt-ltb}
use Rattle.ov_value.specs.declared.value.Value.{Value}
use Rattle.ov_value.specs.declared.value.Value.TheVariants.{Int, Text, Flag, Null}
use Rattle.ov_value.specs.Rows.{key_cmp, value_at, value_cmp}
use Rattle.ov_value.specs.Shapes.{Shape}
use Rattle.ov_model.specs.Act.{repeated_key}
use Rattle.ov_model.specs.Book.{Row}
use Rattle.ov_model.specs.Generator.{Drawn, draw, generated_schema, fresh_row, fresh_rows, with_number, change_one, changes, child_of}
use Rattle.ov_model.specs.Lists.{IsBelow, Rises}
use Rattle.ov_model.specs.Merge.{firsts, has_key, in_key_order}
use Rattle.ov_model.specs.declared.refusal.Refusal.{Refusal}
use Rattle.ov_model.specs.declared.refusal.Refusal.TheVariants as no
use Rattle.ov_model.proofs.Merging.{merged_rises}

-- ---- of a file

or_swap : (a t : Bool) → (a || (t || false)) ≡ (t || a)
or_swap true true = refl
or_swap true false = refl
or_swap false true = refl
or_swap false false = refl

known_append : (schema : Shape) (seen : List Row) (row x : Row) → has_key schema (seen ++ row ∷ []) x ≡ (is_eq (key_cmp schema x row) || has_key schema seen x)
known_append schema [] row x = or_swap false (is_eq (key_cmp schema x row)) ∙ sym (or_swap false (is_eq (key_cmp schema x row))) ∙ or_false (is_eq (key_cmp schema x row))
  where
    or_false : (t : Bool) → (t || false) ≡ (t || false)
    or_false t = refl
known_append schema (y ∷ seen) row x =
    ap (λ t. is_eq (key_cmp schema x y) || t) (known_append schema seen row x)
    ∙ swap (is_eq (key_cmp schema x y)) (is_eq (key_cmp schema x row)) (has_key schema seen x)
  where
    swap : (a b c : Bool) → (a || (b || c)) ≡ (b || (a || c))
    swap true true c = refl
    swap true false c = refl
    swap false true c = refl
    swap false false c = refl

not_refused : (t : Bool) (refusal : Refusal) (rest : Option Refusal) → (if t then Some refusal else rest) ≡ None → (t ≡ false) × (rest ≡ None)
not_refused true refusal rest e = cc
not_refused false refusal rest e = (refl, e)

firsts_all : (schema : Shape) (rows seen before : List Row) (nth : ℕ) → ((x : Row) → has_key schema seen x ≡ has_key schema before x) → repeated_key schema before nth rows ≡ None → firsts schema seen rows ≡ rows
firsts_all schema [] seen before nth same e = refl
firsts_all schema (row ∷ rows) seen before nth same e =
    let passes = not_refused (has_key schema before row) (no.DuplicateKey nth) (repeated_key schema (row ∷ before) (nth + 1) rows) e
    in cond-false (has_key schema seen row) (firsts schema (seen ++ row ∷ []) rows) (row ∷ firsts schema (seen ++ row ∷ []) rows) (same row ∙ passes.0)
    ∙ ap (λ l. row ∷ l)
    (firsts_all schema rows (seen ++ row ∷ []) (row ∷ before) (nth + 1)
    (λ x. known_append schema seen row x ∙ ap (λ t. is_eq (key_cmp schema x row) || t) (same x)) passes.1)

pub file_rises : (schema : Shape) (rows : List Row) → repeated_key schema [] 1 rows ≡ None → Rises (key_cmp schema) (in_key_order schema rows)
file_rises schema rows e =
    subst (λ l. Rises (key_cmp schema) (in_key_order schema l))
    (ap (firsts schema []) (append-nil rows) ∙ firsts_all schema rows [] [] 1 (λ x. refl) e)
    (merged_rises schema (rows ∷ []))

-- ---- of the generator

-- ids rise, above low and at most high
abbrev pub Up : ℕ → ℕ → List Row → Type 0
Up low high [] = Unit {0}
Up low high (row ∷ rows) = (id : ℕ) × (value_at row 0 ≡ Int (pos id)) × ((low < id) × (id ≤ high)) × Up id high rows

pub up_more : (low high more : ℕ) (rows : List Row) → high ≤ more → Up low high rows → Up low more rows
up_more low high more [] le up = tt
up_more low high more (row ∷ rows) le up = (up.0, up.1, (up.2.0, omega (arith, le, up.2.1)), up_more up.0 high more rows le up.3)

up_append : (low high id : ℕ) (rows : List Row) (row : Row) → low ≤ high → high < id → value_at row 0 ≡ Int (pos id) → Up low high rows → Up low id (rows ++ row ∷ [])
up_append low high id [] row le past is up = (id, is, (omega (arith, le, past), omega arith), tt)
up_append low high id (x ∷ rows) row le past is up =
    (up.0, up.1, (up.2.0, omega (arith, up.2.1, past)), up_append up.0 high id rows row up.2.1 past is up.3)

same_id : (id a : ℕ) (row : Row) → value_at (with_number id a row) 0 ≡ value_at row 0
same_id id a [] = refl
same_id id a (x ∷ []) = one x
  where
    one : (x : Value) → value_at (with_number id a (x ∷ [])) 0 ≡ x
    one (Int (pos n)) = refl
    one (Int (negsuc n)) = refl
    one (Text text) = refl
    one (Flag flag) = refl
    one Null = refl
same_id id a (Int (pos n) ∷ old ∷ rest) = first_if (n == id)
  where
    first_if : (t : Bool) → value_at (if t then Int (pos n) ∷ Int (pos a) ∷ rest else Int (pos n) ∷ old ∷ rest) 0 ≡ Int (pos n)
    first_if true = refl
    first_if false = refl
same_id id a (Int (negsuc n) ∷ old ∷ rest) = refl
same_id id a (Text text ∷ old ∷ rest) = refl
same_id id a (Flag flag ∷ old ∷ rest) = refl
same_id id a (Null ∷ old ∷ rest) = refl

up_numbered : (id a low high : ℕ) (rows : List Row) → Up low high rows → Up low high (map (with_number id a) rows)
up_numbered id a low high [] up = tt
up_numbered id a low high (row ∷ rows) up = (up.0, same_id id a row ∙ up.1, up.2, up_numbered id a up.0 high rows up.3)

up_changes : (left count low high : ℕ) (drawn : Drawn (List Row)) → Up low high drawn.is → Up low high (changes left count drawn).is
up_changes zero count low high drawn up = up
up_changes (suc left) count low high drawn up =
    up_changes left count low high (change_one count drawn.state drawn.is)
    (up_numbered (1 + (draw count drawn.state).is) (draw 1000 (draw count drawn.state).state).is low high drawn.is up)

pub up_child : (count vid bound x : ℕ) (parent : List Row) → bound < count + vid → Up 0 bound parent → Up 0 (count + vid) (child_of count vid x parent).is
up_child count vid bound x parent past up =
    let changed : Drawn (List Row) = changes (1 + count / 100) count (record { state = x; is = parent })
    in up_append 0 bound (count + vid) changed.is (fresh_row (count + vid) changed.state).is (omega arith) past refl
    (up_changes (1 + count / 100) count 0 bound (record { state = x; is = parent }) up)

pub up_fresh : (n id x low high : ℕ) → low < id → id + n ≤ high + 1 → Up low high (fresh_rows n id x).is
up_fresh zero id x low high past le = tt
up_fresh (suc n) id x low high past le =
    (id, refl, (past, omega (arith, le)), up_fresh n (id + 1) (fresh_row id x).state id high (omega arith) (omega (arith, le)))

-- lower ids come first
less_int : (i j : ℕ) → i < j → int_cmp (pos i) (pos j) ≡ Less
less_int i j lt = cond-true (nat_lt i j) Less (if nat_lt j i then Greater else Equal) (lt-ltb i j lt)

less_row : (a b : Row) (i j : ℕ) → value_at a 0 ≡ Int (pos i) → value_at b 0 ≡ Int (pos j) → i < j → key_cmp generated_schema a b ≡ Less
less_row a b i j is_a is_b lt =
    (λ k. slice_cmp value_cmp (is_a k ∷ []) (is_b k ∷ []))
    ∙ ap (λ o. ordering_then o (slice_cmp value_cmp [] [])) (less_int i j lt)

up_below : (row : Row) (i low high : ℕ) (rows : List Row) → value_at row 0 ≡ Int (pos i) → i ≤ low → Up low high rows → IsBelow (key_cmp generated_schema) row rows
up_below row i low high [] is le up = tt
up_below row i low high (x ∷ rows) is le up =
    (less_row row x i up.0 is up.1 (omega (arith, le, up.2.0)), up_below row i up.0 high rows is (omega (arith, le, up.2.0)) up.3)

pub up_rises : (low high : ℕ) (rows : List Row) → Up low high rows → Rises (key_cmp generated_schema) rows
up_rises low high [] up = tt
up_rises low high (row ∷ rows) up = (up_below row up.0 up.0 high rows up.1 (omega arith) up.3, up_rises up.0 high rows up.3)
