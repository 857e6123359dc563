use Rattle.std.proofs.Common.{◌≡◌, ◌<◌, ◌≤◌, ◌+◌, ◌==◌, ◌||◌, ℕ, suc, Bool, true, false, not, nat_eq, nat_lt, cond, List, [], ◌∷◌, ◌++◌, length, map, Option, None, Some, refl, sym, ◌∙◌, ap, arith}
use Rattle.std.specs.List.{list_any, IsDistinct, AllByRecursion}
use Rattle.std.specs.Cmp.Lexicographic.{pointwise, bytes_decides, nat_list_eq_equiv}
use Rattle.std.proofs.lemmas.Bool.{eqb-true, false_from_ne_true}
use Rattle.std.proofs.lemmas.Bool.Decides.{nat_tests}
use Rattle.std.proofs.lemmas.List.{length-map}
use mathlib.Core.Bool.{true≢false}
use Rattle.std.proofs.Common.{length-append}
use Rattle.std.proofs.lemmas.List.Folds.{list_any-append}
use Rattle.std.proofs.lemmas.List.Elements.{All-from_recursion}
use Rattle.ov_value.specs.declared.column.Column.{Column}
use Rattle.ov_value.specs.declared.schema_err.SchemaErr.{SchemaErr}
use Rattle.ov_value.specs.Naming.{is_column_name}
use Rattle.ov_value.specs.Shapes.{Shape, names, IsSound}
use Rattle.ov_value.specs.Making.{is_among, name_refusal, column_refusal, key_refusal, place_of}

-- a test of the columns' names
pub list_any-names : (p : List ℕ → Bool) (columns : List Column) → list_any (λ column. p column.name) columns ≡ list_any p (names columns)
list_any-names p [] = refl
list_any-names p (column ∷ columns) = ap (λ b. p column.name || b) (list_any-names p columns)

-- no refusal comes where the first test does not refuse and the rest does not
cond_none : (b : Bool) (x : SchemaErr) (rest : Option SchemaErr) → cond b (Some x) rest ≡ None → (b ≡ false) × (rest ≡ None)
cond_none true x rest e = cc
cond_none false x rest e = (refl, e)

or_false : (a b : Bool) → (a || b) ≡ false → (a ≡ false) × (b ≡ false)
or_false true b e = cc
or_false false b e = (refl, e)

not_false : (b : Bool) → not b ≡ false → b ≡ true
not_false true e = refl
not_false false e = cc

pub same_name : (a b : List ℕ) → pointwise nat_eq a b ≡ true → a ≡ b
same_name a b e = (bytes_decides a b).0 e

name_symm : (a b : List ℕ) → pointwise nat_eq a b ≡ false → pointwise nat_eq b a ≡ false
name_symm a b e = nat_list_eq_equiv.symm b a ∙ e

-- a name that is not among these and one more is not among these, and is not that one
among_split : (name : List ℕ) (before rest : List (List ℕ))
    → AllByRecursion (λ other. is_among other (before ++ name ∷ []) ≡ false) rest
    → AllByRecursion (λ other. is_among other before ≡ false) rest × AllByRecursion (λ other. pointwise nat_eq name other ≡ false) rest
among_split name before [] h = (tt, tt)
among_split name before (other ∷ rest) h =
    let parts = or_false (is_among other before) (is_among other (name ∷ [])) (sym (list_any-append (pointwise nat_eq other) before (name ∷ [])) ∙ h.0) in
    let last = or_false (pointwise nat_eq other name) false parts.1 in
    let more = among_split name before rest h.1 in
    ((parts.0, more.0), (name_symm other name last.0, more.1))

-- what holds of names that are not refused
pub record Passed (test : List ℕ → Bool) (before rest : List (List ℕ)) : Type 0 where
  pub passed : AllByRecursion (λ name. test name ≡ true) rest
  pub fresh : AllByRecursion (λ name. is_among name before ≡ false) rest
  pub once : IsDistinct (pointwise nat_eq) rest

pub passed_none : (test : List ℕ → Bool) (failed repeated : List ℕ → SchemaErr) (before rest : List (List ℕ)) → name_refusal test failed repeated before rest ≡ None → Passed test before rest
unfolding name_refusal IsDistinct
passed_none test failed repeated before [] e = record { passed = tt; fresh = tt; once = tt }
passed_none test failed repeated before (name ∷ rest) e =
    let first = cond_none (not (test name)) (failed name) _ e in
    let second = cond_none (is_among name before) (repeated name) _ first.1 in
    let more = passed_none test failed repeated (before ++ name ∷ []) rest second.1 in
    let split = among_split name before rest more.fresh in
    record {
      passed = (not_false (test name) first.0, more.passed);
      fresh = (second.0, split.0);
      once = (split.1, more.once);
    }

-- ---- the positions of key columns

-- a name of a column has a position among them
pub place_of-less : (columns : List Column) (name : List ℕ) → is_among name (names columns) ≡ true → place_of columns name < length columns
place_of-less [] name h = cc
place_of-less (column ∷ columns) name h =
    elim (pointwise nat_eq name column.name) as (λ b. (b || is_among name (names columns)) ≡ true → cond (not b) (1 + place_of columns name) 0 < suc (length columns)) [
      | true ↦ λ e. omega arith
      | false ↦ λ e. omega (arith, place_of-less columns name e)
    ] h

-- names of columns at the same position are the same
pub place_of-injective : (columns : List Column) (a b : List ℕ) → is_among a (names columns) ≡ true → is_among b (names columns) ≡ true → place_of columns a ≡ place_of columns b → a ≡ b
place_of-injective [] a b h k e = cc
place_of-injective (column ∷ columns) a b h k e =
    elim (pointwise nat_eq a column.name) as (λ s. pointwise nat_eq a column.name ≡ s → (s || is_among a (names columns)) ≡ true → cond (not s) (1 + place_of columns a) 0 ≡ place_of (column ∷ columns) b → a ≡ b) [
      | true ↦ λ p h' e'.
          elim (pointwise nat_eq b column.name) as (λ t. pointwise nat_eq b column.name ≡ t → 0 ≡ cond (not t) (1 + place_of columns b) 0 → a ≡ b) [
            | true ↦ λ q e''. same_name a column.name p ∙ sym (same_name b column.name q)
            | false ↦ λ q e''. absurd (omega arith)
          ] refl e'
      | false ↦ λ p h' e'.
          elim (pointwise nat_eq b column.name) as (λ t. (t || is_among b (names columns)) ≡ true → 1 + place_of columns a ≡ cond (not t) (1 + place_of columns b) 0 → a ≡ b) [
            | true ↦ λ k' e''. absurd (omega arith)
            | false ↦ λ k' e''. place_of-injective columns a b h' k' (omega arith)
          ] k e'
    ] refl h e

all_placed : (columns : List Column) (key : List (List ℕ)) → AllByRecursion (λ name. is_among name (names columns) ≡ true) key → AllByRecursion (λ place. place < length columns) (map (place_of columns) key)
all_placed columns [] h = tt
all_placed columns (name ∷ key) h = (place_of-less columns name h.0, all_placed columns key h.1)

apart : (columns : List Column) (name : List ℕ) (key : List (List ℕ)) → is_among name (names columns) ≡ true
    → AllByRecursion (λ other. is_among other (names columns) ≡ true) key → AllByRecursion (λ other. pointwise nat_eq name other ≡ false) key
    → AllByRecursion (λ place. nat_eq (place_of columns name) place ≡ false) (map (place_of columns) key)
apart columns name [] known h d = tt
apart columns name (other ∷ key) known h d = (unlike, apart columns name key known h.1 d.1)
  where
    unlike : nat_eq (place_of columns name) (place_of columns other) ≡ false
    unlike = false_from_ne_true (nat_eq (place_of columns name) (place_of columns other)) (λ e.
        true≢false (sym ((bytes_decides name other).1 (place_of-injective columns name other known h.0 (eqb-true _ _ e))) ∙ d.0))

places_once : (columns : List Column) (key : List (List ℕ)) → AllByRecursion (λ name. is_among name (names columns) ≡ true) key → IsDistinct (pointwise nat_eq) key → IsDistinct nat_eq (map (place_of columns) key)
unfolding IsDistinct
places_once columns [] h d = tt
places_once columns (name ∷ key) h d = (apart columns name key h.0 h.1 d.0, places_once columns key h.1 d.1)

-- ---- a schema that is not refused is sound

-- what holds of columns that are not refused
pub record GoodColumns (columns : List Column) : Type 0 where
  pub some : 0 < length columns
  pub few : length columns ≤ 64
  pub named : AllByRecursion (λ name. is_column_name name ≡ true) (names columns)
  pub once : IsDistinct (pointwise nat_eq) (names columns)

pub column_none : (columns : List Column) → column_refusal columns ≡ None → GoodColumns columns
unfolding column_refusal
column_none columns e =
    let first = cond_none (length columns == 0) _ _ e in
    let second = cond_none (nat_lt 64 (length columns)) _ _ first.1 in
    let passed = passed_none _ _ _ [] (names columns) second.1 in
    let some_column : (length columns == 0) ≡ false = first.0 in
    let few_columns : nat_lt 64 (length columns) ≡ false = second.0 in
    record { some = grind (arith, nat_tests); few = grind (arith, nat_tests); named = passed.passed; once = passed.once }

pub sound-new : (columns : List Column) (key : List (List ℕ)) → column_refusal columns ≡ None → key_refusal columns key ≡ None → IsSound (record { columns = columns; key = map (place_of columns) key })
unfolding key_refusal
sound-new columns key e k =
    let good = column_none columns e in
    let first = cond_none (length key == 0) _ _ k in
    let passed = passed_none _ _ _ [] key first.1 in
    let some_key : (length key == 0) ≡ false = first.0 in
    let same : length (map (place_of columns) key) ≡ length key = length-map key (place_of columns) in
    record {
      some_column = good.some;
      few_columns = good.few;
      named = All-from_recursion _ _ good.named;
      names_once = good.once;
      some_key = grind (arith, nat_tests);
      key_placed = All-from_recursion _ _ (all_placed columns key passed.passed);
      key_once = places_once columns key passed.passed passed.once;
    }

pub sound-widen : (schema : Shape) (added : List Column) → IsSound schema → column_refusal (schema.columns ++ added) ≡ None → IsSound (record { columns = schema.columns ++ added; key = schema.key })
sound-widen schema added sound e =
    let good = column_none (schema.columns ++ added) e in
    record {
      some_column = good.some;
      few_columns = good.few;
      named = All-from_recursion _ _ good.named;
      names_once = good.once;
      some_key = sound.some_key;
      key_placed = λ k d h. omega (arith, sound.key_placed k d h, length-append {A = Column});
      key_once = sound.key_once;
    }
