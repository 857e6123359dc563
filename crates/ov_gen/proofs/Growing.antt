-- Rows with another number, fresh rows, and a fresh row behind the others.
use Rattle.std.proofs.Common.{None, ◌≡◌, ℕ, zero, suc, ◌+◌, ◌-◌, ◌<◌, ◌≤◌, ◌==◌, true, false, List, [], ◌∷◌, ◌++◌, length, map, get_or, slice_set, pos, refl, ap, inl, inr, arith}
use Rattle.std.proofs.lemmas.Bool.{cases_Bool}
use Rattle.ov_value.specs.declared.value.Value.TheVariants.{Int}
use Rattle.std.specs.List.{list_any}
use Rattle.ov_value.specs.Rows.{is_null}
use Rattle.ov_model.specs.Act.{null_row}
use Rattle.ov_model.specs.Book.{Row}
use Rattle.ov_model.specs.Generator.{Drawn, draw, fresh_row, fresh_rows, onto_rows, with_number, change_one, changes}
use Rattle.ov_gen.specs.Versions.{IsRowOf, Ascend, Begin}

-- one row
row-with : (id i a : ℕ) (row : Row) → a < 1000 → IsRowOf id row → IsRowOf id (with_number i a row)
row-with id i a row small r =
    elim (cases_Bool (id == i)) [
      | inl e ↦ record { number = a; label = r.label; number_small = small; label_small = r.label_small; is = rw r.is (rw e refl) }
      | inr e ↦ record { number = r.number; label = r.label; number_small = r.number_small; label_small = r.label_small; is = rw r.is (rw e refl) }
    ]

row-same : (id i a : ℕ) (row : Row) → i < id → IsRowOf id row → with_number i a row ≡ row
row-same id i a row below r = let e : (id == i) ≡ false = grind arith in rw r.is (rw e refl)

row-other : (id i a : ℕ) (row : Row) → id < i → IsRowOf id row → with_number i a row ≡ row
row-other id i a row below r = let e : (id == i) ≡ false = grind arith in rw r.is (rw e refl)

row-set : (id i a : ℕ) (row : Row) → id ≡ i → IsRowOf id row → with_number i a row ≡ slice_set row 1 (Int (pos a))
row-set id i a row same r = let e : (id == i) ≡ true = grind arith in rw r.is (rw e refl)

-- a list
later-with : (id end i a : ℕ) (rows : List Row) → a < 1000 → Ascend id end rows → Ascend id end (map (with_number i a) rows)
later-with id end i a [] small are = are
later-with id end i a (row ∷ rows) small (n, from, below, r, rest) = (n, from, below, row-with n i a row small r, later-with (n + 1) end i a rows small rest)

pub begin-with : (count id end i a : ℕ) (rows : List Row) → a < 1000 → Begin count id end rows → Begin count id end (map (with_number i a) rows)
begin-with zero id end i a rows small are = later-with id end i a rows small are
begin-with (suc count) id end i a [] small are = are
begin-with (suc count) id end i a (row ∷ rows) small (r, rest) = (row-with id i a row small r, begin-with count (id + 1) end i a rows small rest)

later-same : (id end i a : ℕ) (rows : List Row) → i < id → Ascend id end rows → map (with_number i a) rows ≡ rows
later-same id end i a [] below are = refl
later-same id end i a (row ∷ rows) below (n, from, _, r, rest) =
    rw (row-same n i a row (omega arith) r, later-same (n + 1) end i a rows (omega arith) rest) refl

begin-same : (count id end i a : ℕ) (rows : List Row) → i < id → Begin count id end rows → map (with_number i a) rows ≡ rows
begin-same zero id end i a rows below are = later-same id end i a rows below are
begin-same (suc count) id end i a [] below are = refl
begin-same (suc count) id end i a (row ∷ rows) below (r, rest) =
    rw (row-same id i a row below r, begin-same count (id + 1) end i a rows (omega arith) rest) refl

-- the row with an id from the first one on stands at a place that the id tells
pub begin-set : (count id end place at a : ℕ) (rows : List Row) → at ≡ id + place → place < count → Begin count id end rows
    → map (with_number at a) rows ≡ slice_set rows place (slice_set (get_or rows place []) 1 (Int (pos a)))
begin-set zero id end place at a rows is within are = let no : ⊥ = omega arith in elim no [ ]
begin-set (suc count) id end place at a [] is within are = elim are [ ]
begin-set (suc count) id end zero at a (row ∷ rows) is within (r, rest) =
    rw (row-set id at a row (omega arith) r, begin-same count (id + 1) end at a rows (omega arith) rest) refl
begin-set (suc count) id end (suc place) at a (row ∷ rows) is within (r, rest) =
    rw (row-other id at a row (omega arith) r, begin-set count (id + 1) end place at a rows (omega arith) (omega arith) rest) refl

pub begin-there : (count id end place : ℕ) (rows : List Row) → place < count → Begin count id end rows → place < length rows
begin-there zero id end place rows within are = omega arith
begin-there (suc count) id end place [] within are = elim are [ ]
begin-there (suc count) id end zero (row ∷ rows) within are = omega arith
begin-there (suc count) id end (suc place) (row ∷ rows) within (r, rest) =
    let h = begin-there count (id + 1) end place rows (omega arith) rest in omega (arith, h)

pub begin-three : (count id end place : ℕ) (rows : List Row) → place < count → Begin count id end rows → length (get_or rows place []) ≡ 3
begin-three zero id end place rows within are = omega arith
begin-three (suc count) id end place [] within are = elim are [ ]
begin-three (suc count) id end zero (row ∷ rows) within (r, rest) = ap length r.is
begin-three (suc count) id end (suc place) (row ∷ rows) within (r, rest) = begin-three count (id + 1) end place rows (omega arith) rest

-- fresh rows
pub row-fresh : (id x : ℕ) → IsRowOf id (fresh_row id x).is
row-fresh id x = record {
  number = (draw 1000 x).is;
  label = (draw 100 (draw 1000 x).state).is;
  number_small = grind arith;
  label_small = grind arith;
  is = refl;
}

pub begin-fresh : (count id end x : ℕ) → Begin count id end (fresh_rows count id x).is
begin-fresh zero id end x = _
begin-fresh (suc count) id end x = (row-fresh id x, begin-fresh count (id + 1) end (fresh_row id x).state)

later-push : (id end : ℕ) (rows : List Row) (row : Row) → id ≤ end → Ascend id end rows → IsRowOf end row → Ascend id (end + 1) (rows ++ row ∷ [])
later-push id end [] row within are r = (end, within, omega arith, r, _)
later-push id end (first ∷ rows) row within (n, from, below, f, rest) r =
    (n, from, omega arith, f, later-push (n + 1) end rows row (omega arith) rest r)

pub begin-push : (count id end : ℕ) (rows : List Row) (row : Row) → id + count ≤ end → Begin count id end rows → IsRowOf end row → Begin count id (end + 1) (rows ++ row ∷ [])
begin-push zero id end rows row within are r = later-push id end rows row (omega arith) are r
begin-push (suc count) id end [] row within are r = elim are [ ]
begin-push (suc count) id end (first ∷ rows) row within (f, rest) r = (f, begin-push count (id + 1) end rows row (omega arith) rest r)

-- the steps of two loops
pub fresh-more : (count before x : ℕ) → before < count
    → fresh_rows (count - before) (1 + before) x
    ≡ onto_rows (fresh_row (1 + before) x) (fresh_rows (count - (before + 1)) (1 + (before + 1)) (fresh_row (1 + before) x).state)
fresh-more count before x below =
    let e : count - before ≡ suc (count - (before + 1)) = omega arith in
    let next : 1 + (before + 1) ≡ 1 + before + 1 = omega arith in
    rw (e, next) refl

pub changes-more : (total before count : ℕ) (drawn : Drawn (List Row)) → before < total
    → changes (total - before) count drawn ≡ changes (total - (before + 1)) count (change_one count drawn.state drawn.is)
changes-more total before count drawn below = let e : total - before ≡ suc (total - (before + 1)) = omega arith in rw e refl

-- ids below an end are below each greater one
later-raise : (id end most : ℕ) (rows : List Row) → end ≤ most → Ascend id end rows → Ascend id most rows
later-raise id end most [] within are = are
later-raise id end most (row ∷ rows) within (n, from, below, r, rest) = (n, from, omega arith, r, later-raise (n + 1) end most rows within rest)

pub begin-raise : (count id end most : ℕ) (rows : List Row) → end ≤ most → Begin count id end rows → Begin count id most rows
begin-raise zero id end most rows within are = later-raise id end most rows within are
begin-raise (suc count) id end most [] within are = are
begin-raise (suc count) id end most (row ∷ rows) within (r, rest) = (r, begin-raise count (id + 1) end most rows within rest)

-- their number, and that none has NULL
later-few : (id end : ℕ) (rows : List Row) → id ≤ end → Ascend id end rows → id + length rows ≤ end
later-few id end [] within are = omega arith
later-few id end (row ∷ rows) within (n, from, below, r, rest) = let h = later-few (n + 1) end rows (omega arith) rest in omega (arith, h)

pub begin-few : (count id end : ℕ) (rows : List Row) → id + count ≤ end → Begin count id end rows → id + length rows ≤ end
begin-few zero id end rows within are = later-few id end rows (omega arith) are
begin-few (suc count) id end [] within are = elim are [ ]
begin-few (suc count) id end (row ∷ rows) within (r, rest) = let h = begin-few count (id + 1) end rows (omega arith) rest in omega (arith, h)

row-whole : (id : ℕ) (row : Row) → IsRowOf id row → list_any is_null row ≡ false
row-whole id row r = ap (list_any is_null) r.is

later-whole : (id end nth : ℕ) (rows : List Row) → Ascend id end rows → null_row nth rows ≡ None
later-whole id end nth [] are = refl
later-whole id end nth (row ∷ rows) (n, from, below, r, rest) = rw (row-whole n row r) (later-whole (n + 1) end (nth + 1) rows rest)

pub begin-whole : (count id end nth : ℕ) (rows : List Row) → Begin count id end rows → null_row nth rows ≡ None
begin-whole zero id end nth rows are = later-whole id end nth rows are
begin-whole (suc count) id end nth [] are = elim are [ ]
begin-whole (suc count) id end nth (row ∷ rows) (r, rest) = rw (row-whole id row r) (begin-whole count (id + 1) end (nth + 1) rows rest)
