-- Rows side by side, and their values.
use Rattle.std.proofs.Common.{◌≡◌, ◌<◌, ◌≤◌, ◌-◌, ◌++◌, ◌∷◌, ◌∙◌, [], ℕ, zero, suc, List, ap, ap₂, refl, sym, length, get_or, arith}
use Rattle.std.proofs.lemmas.List.{get_or-map, map-append}
use Rattle.std.specs.Prelude.{slice_index_or}
use Rattle.std.specs.List.{All}
use Rattle.ov_value.specs.declared.value.Value.{Value}
use Rattle.ov_value.specs.declared.value.Value.TheVariants.{Null}
use Rattle.ov_fetch.specs.Scans.{row_at, rows_of}
use Rattle.ov_model.specs.Answers.{row_cells}
use Rattle.ov_model.specs.Book.{Row}
use Rattle.ov_model.specs.declared.answer.Cell.{Cell}
use Rattle.ov_model.specs.declared.answer.Cell.TheVariants as cell
use Rattle.ov_segment.specs.declared.numbered.Record.{Record}
use Rattle.ov_terms.specs.Standing.{AreWide, Stands, joined_row, joined_rows, row_in}
use Rattle.ov_terms.specs.declared.matches.Match.{Match}
use Rattle.ov_terms.proofs.Found.{row-at}

-- a value of the front, and one behind it
pub in-front : (xs ys : List Value) (i : ℕ) → i < length xs → slice_index_or (xs ++ ys) i Null ≡ slice_index_or xs i Null
in-front [] ys i lt = absurd (omega (arith, lt))
in-front (x ∷ xs) ys zero lt = refl
in-front (x ∷ xs) ys (suc i) lt = in-front xs ys i (omega (arith, lt))

pub behind : (xs ys : List Value) (i : ℕ) → length xs ≤ i → slice_index_or (xs ++ ys) i Null ≡ slice_index_or ys (i - length xs) Null
behind [] ys i le = ap (λ k. slice_index_or ys k Null) (none i) where
  none : (k : ℕ) → k ≡ k - 0
  none k = omega arith
behind (x ∷ xs) ys zero le = absurd (omega (arith, le))
behind (x ∷ xs) ys (suc i) le = behind xs ys i (omega (arith, le)) ∙ ap (λ k. slice_index_or ys k Null) (less i (length xs)) where
  less : (k n : ℕ) → k - n ≡ suc k - suc n
  less k n = omega arith

pub joined-at : (left right : List Record) (matches : List Match) (at : ℕ) (d : Match) → at < length matches
    → row_in (joined_rows left right matches) at ≡ joined_row left right (get_or matches at d)
joined-at left right matches at d lt = get_or-map (joined_row left right) matches at d [] lt

pub joined-past : (left right : List Record) (matches : List Match) (at : ℕ) → length matches ≤ at → row_in (joined_rows left right matches) at ≡ []
joined-past left right [] at le = refl
joined-past left right (m ∷ matches) zero le = absurd (omega (arith, le))
joined-past left right (m ∷ matches) (suc at) le = joined-past left right matches at (omega (arith, le))

pub width-at : (width : ℕ) (records : List Record) (i : ℕ) → AreWide width records → i < length records → length (row_at records i) ≡ width
width-at width records i wide lt = wide i [] (rw (rows-length records) lt) where
  rows-length : (rs : List Record) → length (rows_of rs) ≡ length rs
  rows-length [] = refl
  rows-length (r ∷ rs) = ap suc (rows-length rs)

pub record-row : (records : List Record) (i : ℕ) (row : Row) → i < length records → ((none : Record) → row ≡ (slice_index_or records i none).row) → row ≡ row_at records i
record-row records i row lt is = is (record { rid = 0; row = [] }) ∙ row-at records i (record { rid = 0; row = [] }) lt

pub cell-left : (left right : List Record) (matches : List Match) (at place width : ℕ) (d : Match) (row : Row) (v : Value)
    → AreWide width left → All (Stands left right) matches → at < length matches → place < width
    → ((none : Record) → row ≡ (slice_index_or left (slice_index_or matches at d).left none).row) → v ≡ slice_index_or row place Null
    → v ≡ slice_index_or (row_in (joined_rows left right matches) at) place Null
cell-left left right matches at place width d row v wide stand lt short is seen =
    let m : Match = get_or matches at d in
    let there : m.left < length left = (stand at d lt).0 in
    seen ∙ ap (λ r. slice_index_or r place Null)
    (record-row left m.left row there is)
    ∙ sym (in-front (row_at left m.left) (row_at right m.right) place (rw (width-at width left m.left wide there) short))
    ∙ ap (λ r. slice_index_or r place Null) (sym (joined-at left right matches at d lt))

pub cell-right : (left right : List Record) (matches : List Match) (at place width : ℕ) (d : Match) (row : Row) (v : Value)
    → AreWide width left → All (Stands left right) matches → at < length matches → width ≤ place
    → ((none : Record) → row ≡ (slice_index_or right (slice_index_or matches at d).right none).row) → v ≡ slice_index_or row (place - width) Null
    → v ≡ slice_index_or (row_in (joined_rows left right matches) at) place Null
cell-right left right matches at place width d row v wide stand lt long is seen =
    let m : Match = get_or matches at d in
    let there : m.left < length left = (stand at d lt).0 in
    let as_wide : length (row_at left m.left) ≡ width = width-at width left m.left wide there in
    seen ∙ ap (λ r. slice_index_or r (place - width) Null) (record-row right m.right row (stand at d lt).1 is)
    ∙ ap (λ n. slice_index_or (row_at right m.right) (place - n) Null) (sym as_wide)
    ∙ sym (behind (row_at left m.left) (row_at right m.right) place (rw as_wide long))
    ∙ ap (λ r. slice_index_or r place Null) (sym (joined-at left right matches at d lt))

pub cells-joined : (left right : List Record) (matches : List Match) (at : ℕ) (d : Match) (l r : Row) (made one two : List Cell)
    → All (Stands left right) matches → at < length matches
    → ((none : Record) → l ≡ (slice_index_or left (slice_index_or matches at d).left none).row)
    → ((none : Record) → r ≡ (slice_index_or right (slice_index_or matches at d).right none).row)
    → one ≡ row_cells l → two ≡ one ++ row_cells r → made ≡ two → made ≡ row_cells (row_in (joined_rows left right matches) at)
cells-joined left right matches at d l r made one two stand lt isl isr first second all =
    let m : Match = get_or matches at d in
    all ∙ second ∙ ap₂ (λ xs row. xs ++ row_cells row) (first ∙ ap row_cells (record-row left m.left l (stand at d lt).0 isl)) (record-row right m.right r (stand at d lt).1 isr)
    ∙ sym (map-append (λ v. cell.Value v) (row_at left m.left) (row_at right m.right))
    ∙ ap row_cells (sym (joined-at left right matches at d lt))
