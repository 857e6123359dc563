-- The schema that an event spells is the one that is made of it.
use Rattle.std.proofs.Common.{◌≡◌, ℕ, zero, suc, ◌<◌, Bool, true, false, ◌&&◌, List, [], ◌∷◌, length, get_or, map, refl, sym, ap, subst, ◌∙◌, inl, inr, arith}
use Rattle.std.specs.Prelude.{Option, Some, None, Ok, nat_eq, nat_lt}
use Rattle.std.specs.List.{AllByRecursion, IsDistinct}
use Rattle.std.specs.Cmp.Lexicographic.{pointwise}
use Rattle.std.proofs.lemmas.Bool.{cases_Bool, eq-eqb, ltb-true}
use Rattle.std.proofs.lemmas.List.{get_or-map, length-map}
use Rattle.std.proofs.lemmas.List.Sums.{position_or_len_is}
use Rattle.std.proofs.lemmas.Map.Keys.{IsDistinct-head, IsDistinct-tail}
use Rattle.ov_value.specs.declared.column.Column.{Column}
use Rattle.ov_value.specs.declared.schema_err.SchemaErr.{SchemaErr}
use Rattle.ov_value.specs.Making.{schema_of, answer_of, place_of}
use Rattle.ov_value.specs.Shapes.{Shape, IsSound, names}
use Rattle.ov_value.proofs.SchemaLemmas.{same_name}
use Rattle.ov_catalog.specs.Applying.{are_places, name_at, no_column}

same-name : (n : List ℕ) → pointwise nat_eq n n ≡ true
same-name [] = refl
same-name (x ∷ n) = rw (eq-eqb x x refl) (same-name n)

all-at : (P : List ℕ → Type 0) (xs : List (List ℕ)) (k : ℕ) → AllByRecursion P xs → k < length xs → P (get_or xs k [])
all-at P [] k h lt = absurd (omega arith)
all-at P (x ∷ xs) zero h lt = h.0
all-at P (x ∷ xs) (suc k) h lt = all-at P xs k h.1 (omega arith)

distinct-at : (xs : List (List ℕ)) (k i : ℕ) → IsDistinct (pointwise nat_eq) xs → k < i → i < length xs → pointwise nat_eq (get_or xs k []) (get_or xs i []) ≡ false
distinct-at [] k i h lt within = absurd (omega arith)
distinct-at (x ∷ xs) k zero h lt within = absurd (omega arith)
distinct-at (x ∷ xs) zero (suc i) h lt within = all-at (λ y. pointwise nat_eq x y ≡ false) xs i (IsDistinct-head (pointwise nat_eq) x xs h) (omega arith)
distinct-at (x ∷ xs) (suc k) (suc i) h lt within = distinct-at xs k i (IsDistinct-tail (pointwise nat_eq) x xs h) (omega arith) (omega arith)

-- the place of the name at a place
place-at : (columns : List Column) (place : ℕ) → IsDistinct (pointwise nat_eq) (names columns) → place < length columns → place_of columns (name_at columns place) ≡ place
place-at columns place once lt =
    let name = name_at columns place in
    position_or_len_is (λ (column : Column). pointwise nat_eq name column.name) columns place no_column (omega arith)
    (λ k before.
    let size = length-map columns (λ (column : Column). column.name) in
    let a : get_or (names columns) k [] ≡ (get_or columns k no_column).name = get_or-map (λ (column : Column). column.name) columns k no_column [] (omega arith) in
    let b : get_or (names columns) place [] ≡ name = get_or-map (λ (column : Column). column.name) columns place no_column [] lt in
    let apart : pointwise nat_eq (get_or columns k no_column).name name ≡ false = rw (a, b) at (distinct-at (names columns) k place once before (omega (arith, size, lt))) in
    elim (cases_Bool (pointwise nat_eq name (get_or columns k no_column).name)) [
      | inl e ↦
          let same = same_name name (get_or columns k no_column).name e in
          let own : pointwise nat_eq (get_or columns k no_column).name name ≡ true = subst (λ (n : List ℕ). pointwise nat_eq n name ≡ true) same (same-name name) in
          absurd cc
      | inr e ↦ e
    ])
    (λ _. same-name name)

and-both : (a b : Bool) → (a && b) ≡ true → (a ≡ true) × (b ≡ true)
and-both true b h = (refl, h)
and-both false b h = absurd cc

places-at : (columns : List Column) (key : List ℕ) → IsDistinct (pointwise nat_eq) (names columns) → are_places columns key ≡ true → map (place_of columns) (map (name_at columns) key) ≡ key
places-at columns [] once h = refl
places-at columns (place ∷ key) once h =
    let both = and-both (nat_lt place (length columns)) (are_places columns key) h in
    let own = place-at columns place once (ltb-true place (length columns) both.0) in
    let rest = places-at columns key once both.1 in
    λ i. own i ∷ rest i

answer-ok : (refusal : Option SchemaErr) (shape made : Shape) → answer_of refusal shape ≡ Ok made → shape ≡ made
answer-ok None shape made h = cc
answer-ok (Some why) shape made h = absurd cc

pub schema-is : (columns : List Column) (key : List ℕ) (made : Shape) → schema_of columns (map (name_at columns) key) ≡ Ok made → IsSound made → are_places columns key ≡ true → made ≡ record { columns = columns; key = key }
schema-is columns key made h sound there =
    let is = answer-ok _ (record { columns = columns; key = map (place_of columns) (map (name_at columns) key) }) made h in
    let once : IsDistinct (pointwise nat_eq) (names columns) = subst (λ (s : Shape). IsDistinct (pointwise nat_eq) (names s.columns)) (sym is) sound.names_once in
    sym is ∙ ap (λ (k : List ℕ). record { columns = columns; key = k }) (places-at columns key once there)
