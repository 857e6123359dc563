-- A sound schema is made of its columns and of the names at its key's places.
use Rattle.std.proofs.Common.{◌≡◌, ◌<◌, ◌==◌, ◌&&◌, ℕ, zero, suc, Bool, true, false, nat_eq, nat_lt, List, [], ◌∷◌, ◌++◌, length, map, refl, sym, ◌∙◌, ap, arith}
use Rattle.std.specs.Prelude.{◌≢◌, Option, Some, None, is_ok}
use Rattle.std.specs.List.{All, IsDistinct, AllByRecursion}
use Rattle.std.specs.Option.{option_or}
use Rattle.std.specs.Cmp.Lexicographic.{pointwise, bytes_decides, nat_list_eq_equiv}
use Rattle.std.proofs.lemmas.Bool.{and_from, or_from, or_left, or_right, lt-ltb, ltb-true, eq-eqb, ne_eqb, true≢false, false_from_ne_true}
use Rattle.std.proofs.lemmas.List.{length-map}
use Rattle.std.proofs.lemmas.List.Elements.{All-head, All-tail}
use Rattle.std.proofs.lemmas.List.Folds.{list_any-append}
use Rattle.ov_value.specs.declared.column.Column.{Column}
use Rattle.ov_value.specs.declared.schema_err.SchemaErr.{SchemaErr}
use Rattle.ov_value.specs.Shapes.{Shape, names, IsSound}
use Rattle.ov_value.specs.Making.{is_among, name_refusal, column_refusal, key_refusal, answer_of, schema_of}
use Rattle.ov_catalog.specs.Applying.{are_places, name_at}

-- each in turn, from each by its place
by_turn : {X : Type 0} (P : X → Type 0) (xs : List X) → All P xs → AllByRecursion P xs
by_turn P [] all = tt
by_turn P (x ∷ xs) all = (All-head P x xs all, by_turn P xs (All-tail P x xs all))

name_symm : (a b : List ℕ) → pointwise nat_eq a b ≡ false → pointwise nat_eq b a ≡ false
name_symm a b e = nat_list_eq_equiv.symm b a ∙ e

-- ---- names that aren't refused

one_more : (name : List ℕ) (before rest : List (List ℕ)) → AllByRecursion (λ other. is_among other before ≡ false) rest → AllByRecursion (λ other. pointwise nat_eq name other ≡ false) rest
    → AllByRecursion (λ other. is_among other (before ++ name ∷ []) ≡ false) rest
one_more name before [] none apart = tt
one_more name before (other ∷ rest) none apart = (
  list_any-append (pointwise nat_eq other) before (name ∷ [])
      ∙ or_from (is_among other before) (is_among other (name ∷ [])) none.0 (or_from (pointwise nat_eq other name) false (name_symm name other apart.0) refl),
  one_more name before rest none.1 apart.1,
)

passes : (test : List ℕ → Bool) (failed repeated : List ℕ → SchemaErr) (before rest : List (List ℕ)) → AllByRecursion (λ name. test name ≡ true) rest
    → AllByRecursion (λ name. is_among name before ≡ false) rest → IsDistinct (pointwise nat_eq) rest → name_refusal test failed repeated before rest ≡ None
unfolding name_refusal IsDistinct
passes test failed repeated before [] passed fresh once = refl
passes test failed repeated before (name ∷ rest) passed fresh once =
    rw passed.0 (rw fresh.0 (passes test failed repeated (before ++ name ∷ []) rest passed.1 (one_more name before rest fresh.1 once.0) once.1))

none_before : (names : List (List ℕ)) → AllByRecursion (λ name. is_among name [] ≡ false) names
none_before [] = tt
none_before (name ∷ names) = (refl, none_before names)

not_zero : (n : ℕ) → 0 < n → (n == 0) ≡ false
not_zero n lt = ne_eqb n 0 (λ e. omega (arith, lt, e))

columns_pass : (s : Shape) → IsSound s → column_refusal s.columns ≡ None
unfolding column_refusal
columns_pass s sound =
    let few : nat_lt 64 (length s.columns) ≡ false = false_from_ne_true (nat_lt 64 (length s.columns)) (λ more. omega (arith, sound.few_columns, ltb-true 64 (length s.columns) more))
    in rw (not_zero (length s.columns) sound.some_column) (rw few
    (passes _ _ _ [] (names s.columns) (by_turn _ (names s.columns) sound.named) (none_before (names s.columns)) sound.names_once))

-- ---- the names at places

name_among : (columns : List Column) (place : ℕ) → place < length columns → is_among (name_at columns place) (names columns) ≡ true
name_among [] place lt = absurd (omega (arith, lt))
name_among (column ∷ columns) zero lt = or_left (pointwise nat_eq column.name column.name) (is_among column.name (names columns)) ((bytes_decides column.name column.name).1 refl)
name_among (column ∷ columns) (suc place) lt =
    or_right (pointwise nat_eq (name_at columns place) column.name) (is_among (name_at columns place) (names columns)) (name_among columns place (omega (arith, lt)))

other_at : (name : List ℕ) (columns : List Column) (place : ℕ) → AllByRecursion (λ other. pointwise nat_eq name other ≡ false) (names columns) → place < length columns
    → pointwise nat_eq name (name_at columns place) ≡ false
other_at name [] place apart lt = absurd (omega (arith, lt))
other_at name (column ∷ columns) zero apart lt = apart.0
other_at name (column ∷ columns) (suc place) apart lt = other_at name columns place apart.1 (omega (arith, lt))

names_apart : (columns : List Column) (a b : ℕ) → IsDistinct (pointwise nat_eq) (names columns) → a < length columns → b < length columns → a ≢ b
    → pointwise nat_eq (name_at columns a) (name_at columns b) ≡ false
unfolding IsDistinct
names_apart [] a b once here there other = absurd (omega (arith, here))
names_apart (column ∷ columns) zero zero once here there other = absurd (other refl)
names_apart (column ∷ columns) zero (suc b) once here there other = other_at column.name columns b once.0 (omega (arith, there))
names_apart (column ∷ columns) (suc a) zero once here there other =
    name_symm column.name (name_at columns a) (other_at column.name columns a once.0 (omega (arith, here)))
names_apart (column ∷ columns) (suc a) (suc b) once here there other = names_apart columns a b once.1 (omega (arith, here)) (omega (arith, there)) (λ e. other (ap suc e))

keys_among : (columns : List Column) (key : List ℕ) → AllByRecursion (λ place. place < length columns) key
    → AllByRecursion (λ name. is_among name (names columns) ≡ true) (map (name_at columns) key)
keys_among columns [] there = tt
keys_among columns (place ∷ key) there = (name_among columns place there.0, keys_among columns key there.1)

keys_apart : (columns : List Column) (place : ℕ) (key : List ℕ) → IsDistinct (pointwise nat_eq) (names columns) → place < length columns
    → AllByRecursion (λ other. other < length columns) key → AllByRecursion (λ other. nat_eq place other ≡ false) key
    → AllByRecursion (λ name. pointwise nat_eq (name_at columns place) name ≡ false) (map (name_at columns) key)
keys_apart columns place [] once here there apart = tt
keys_apart columns place (other ∷ key) once here there apart =
    (names_apart columns place other once here there.0 (λ e. true≢false (sym (eq-eqb place other e) ∙ apart.0)), keys_apart columns place key once here there.1 apart.1)

keys_once : (columns : List Column) (key : List ℕ) → IsDistinct (pointwise nat_eq) (names columns) → AllByRecursion (λ place. place < length columns) key → IsDistinct nat_eq key
    → IsDistinct (pointwise nat_eq) (map (name_at columns) key)
unfolding IsDistinct
keys_once columns [] once there key_once = tt
keys_once columns (place ∷ key) once there key_once = (keys_apart columns place key once there.0 there.1 key_once.0, keys_once columns key once there.1 key_once.1)

key_passes : (s : Shape) → IsSound s → key_refusal s.columns (map (name_at s.columns) s.key) ≡ None
unfolding key_refusal
key_passes s sound =
    let there : AllByRecursion (λ place. place < length s.columns) s.key = by_turn _ s.key sound.key_placed
    in let some : (length (map (name_at s.columns) s.key) == 0) ≡ false = ap (λ n. n == 0) (length-map s.key (name_at s.columns)) ∙ not_zero (length s.key) sound.some_key
    in rw some (passes _ _ _ [] (map (name_at s.columns) s.key) (keys_among s.columns s.key there) (none_before (map (name_at s.columns) s.key))
    (keys_once s.columns s.key sound.names_once there sound.key_once))

places_are : (columns : List Column) (key : List ℕ) → AllByRecursion (λ place. place < length columns) key → are_places columns key ≡ true
places_are columns [] there = refl
places_are columns (place ∷ key) there = and_from (nat_lt place (length columns)) (are_places columns key) (lt-ltb place (length columns) there.0) (places_are columns key there.1)

abbrev pub is_shape : Shape → Bool
is_shape s = are_places s.columns s.key && is_ok (schema_of s.columns (map (name_at s.columns) s.key))

made : (a b : Option SchemaErr) (s : Shape) → a ≡ None → b ≡ None → is_ok (answer_of (option_or a b) s) ≡ true
made None None s e f = refl
made None (Some x) s e f = cc
made (Some x) b s e f = cc

pub sound_is_shape : (s : Shape) → IsSound s → is_shape s ≡ true
sound_is_shape s sound =
    and_from (are_places s.columns s.key) (is_ok (schema_of s.columns (map (name_at s.columns) s.key)))
    (places_are s.columns s.key (by_turn _ s.key sound.key_placed))
    (made (column_refusal s.columns) (key_refusal s.columns (map (name_at s.columns) s.key)) _ (columns_pass s sound) (key_passes s sound))
