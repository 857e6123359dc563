-- Rows of bytes with marks and without, and which of their values are NULL.
use Rattle.std.proofs.Common.{◌≡◌, ◌≢◌, ◌<◌, ◌≤◌, ◌+◌, ◌*◌, ◌/◌, ◌%◌, ◌^◌, ℕ, zero, suc, Bool, true, false, cond, IsTrue, List, [], ◌∷◌, ◌++◌, length, take, get_or, refl, sym, ◌∙◌, ap, subst, arith, get_or-take, eqb, inl, inr}
use Rattle.std.specs.List.{flat_map, list_any, All}
use Rattle.std.proofs.lemmas.Bool.{eqb-true, false_from_ne_true, cases_lt, lt-ltb, le-ltb}
use Rattle.std.proofs.lemmas.Nat.{shr-shr}
use Rattle.std.proofs.lemmas.List.{take_at, drop_at}
use mathlib.Core.Bool.{true≢false}
use Rattle.ov_value.specs.declared.column.Column.{Column}
use Rattle.ov_value.specs.declared.value.Value.{Value}
use Rattle.ov_value.specs.declared.value.Value.TheVariants.{Int, Text, Flag, Null}
use Rattle.ov_value.specs.Shapes.{Shape}
use Rattle.ov_value.specs.Rows.{is_null, value_at}
use Rattle.ov_value.specs.Spelling.{value_bytes, kept_with, kept, marks, low_bytes, IsSpelling, IsRow}
use Rattle.ov_value.specs.Reading.{Spelled, BeginWithMarks, low_number}
use Rattle.ov_value.specs.Decoding.{decoded, CanRead, nulls_of, body_of, row_of, AreRow, stands}
use Rattle.ov_value.proofs.KeptLemmas.{kept-take}
use Rattle.ov_value.proofs.LowBytes.{length-low_bytes, low_number-low_bytes}
use Rattle.ov_value.proofs.MarkLemmas.{marks_some, mark_bytes_none, plain_lies, spelled_marks, marked_row, marked_spelled, row_spelled, spelled_row}
use Rattle.ov_value.proofs.Decoded.{lies_decoded, can_read}

-- ---- plain

none_marked : (xs : List Value) → marks xs ≡ 0 → list_any is_null xs ≡ false
none_marked xs e = false_from_ne_true (list_any is_null xs) (λ t. omega (arith, marks_some xs t, e))

pub plain_row : (columns : List Column) (bytes : List ℕ) → CanRead columns 0 bytes → AreRow columns false bytes
plain_row columns bytes can =
    let none : list_any is_null (kept (decoded columns 0 bytes)) ≡ false = none_marked (kept (decoded columns 0 bytes)) can.marked in
    record {
      kinds = can.kinds;
      spelled = can.spelled;
      marked_is = none;
      bytes_are = can.bytes_are ∙ ap (λ (l : List ℕ). l ++ flat_map value_bytes (decoded columns 0 bytes)) (sym (mark_bytes_none (kept (decoded columns 0 bytes)) none));
    }

pub plain_can : (columns : List Column) (bytes : List ℕ) (row : List Value) → Spelled columns false bytes row → CanRead columns 0 bytes
plain_can columns bytes row spelled = can_read columns 0 bytes row (plain_lies columns bytes row spelled)

-- ---- marked

-- the marks that stand in front are those that the bytes decode to
pub begin_is : (bytes : List ℕ) (width nulls : ℕ) (rest : List ℕ) → BeginWithMarks bytes width nulls rest → (nulls_of true bytes ≡ nulls) × (body_of true bytes ≡ rest)
begin_is bytes width nulls rest begin =
    let front : take ((width + 7) / 8) (low_bytes ((width + 7) / 8) nulls ++ rest) ≡ low_bytes ((width + 7) / 8) nulls =
    take_at (low_bytes ((width + 7) / 8) nulls) rest ((width + 7) / 8) (length-low_bytes ((width + 7) / 8) nulls) in (
      ap (λ (l : List ℕ). nulls_of true l) begin.bytes_are ∙ ap low_number front ∙ low_number-low_bytes ((width + 7) / 8) nulls begin.small,
      ap (λ (l : List ℕ). body_of true l) begin.bytes_are ∙ drop_at (low_bytes ((width + 7) / 8) nulls) rest ((width + 7) / 8) (length-low_bytes ((width + 7) / 8) nulls),
    )

pub marked_row_is : (columns : List Column) (bytes : List ℕ) (width nulls : ℕ) (rest : List ℕ) → BeginWithMarks bytes width nulls rest → row_of columns true bytes ≡ decoded columns nulls rest
marked_row_is columns bytes width nulls rest begin =
    let is = begin_is bytes width nulls rest begin in
    λ i. decoded columns (is.0 i) (is.1 i)

pub marked_are : (columns : List Column) (bytes : List ℕ) (width nulls : ℕ) (rest : List ℕ) → BeginWithMarks bytes width nulls rest → CanRead columns nulls rest
    → width ≡ length (kept (decoded columns nulls rest)) → nulls ≢ 0 → AreRow columns true bytes
marked_are columns bytes width nulls rest begin can wide some =
    subst (λ (r : List Value). Spelled columns true bytes r) (sym (marked_row_is columns bytes width nulls rest begin))
    (marked_spelled columns bytes width nulls rest (decoded columns nulls rest) begin
    (record { kinds = can.kinds; spelled = can.spelled; bytes_are = can.bytes_are; plain = λ e. absurd (some e) })
    (record { width_is = sym wide; some = some; marks_are = can.marked }))

-- a row that the bytes spell meets what is asked of marks
pub record Meets (columns : List Column) (width nulls : ℕ) (rest : List ℕ) : Type 0 where
  pub can : CanRead columns nulls rest
  pub width_is : length (kept (decoded columns nulls rest)) ≡ width
  pub some : nulls ≢ 0

pub meets : (columns : List Column) (bytes : List ℕ) (width nulls : ℕ) (rest : List ℕ) (row : List Value) → BeginWithMarks bytes width nulls rest → Spelled columns true bytes row → Meets columns width nulls rest
meets columns bytes width nulls rest row begin spelled =
    let m = marked_row columns bytes width nulls rest row begin spelled in
    record {
      can = can_read columns nulls rest row m.lies;
      width_is = ap (λ (r : List Value). length (kept r)) (sym (lies_decoded columns nulls rest row m.lies)) ∙ m.are.width_is;
      some = m.are.some;
    }

-- ---- the row of bytes

pub row_is : (columns : List Column) (marked : Bool) (bytes : List ℕ) (row : List Value) → Spelled columns marked bytes row → row ≡ row_of columns marked bytes
row_is columns false bytes row spelled = lies_decoded columns 0 bytes row (plain_lies columns bytes row spelled)
row_is columns true bytes row spelled =
    let begin = (spelled_marks columns bytes row spelled).1 in
    lies_decoded columns (marks (kept row)) (flat_map value_bytes row) row (marked_row columns bytes (length (kept row)) (marks (kept row)) (flat_map value_bytes row) row begin spelled).lies
    ∙ sym (marked_row_is columns bytes (length (kept row)) (marks (kept row)) (flat_map value_bytes row) begin)

pub are_row : (columns : List Column) (marked : Bool) (bytes : List ℕ) (row : List Value) → Spelled columns marked bytes row → AreRow columns marked bytes
are_row columns marked bytes row spelled = subst (λ (r : List Value). Spelled columns marked bytes r) (row_is columns marked bytes row spelled) spelled

-- ---- which values are NULL

mark_at : (ys : List Value) (i : ℕ) → i < length ys → marks ys / 2 ^ i % 2 ≡ cond (is_null (get_or ys i Null)) 1 0
mark_at [] i h = absurd (omega arith)
mark_at (y ∷ ys) zero h = by (is_null y)
  where
    by : (b : Bool) → (cond b 1 0 + 2 * marks ys) / 2 ^ 0 % 2 ≡ cond b 1 0
    by true = omega arith
    by false = omega arith
mark_at (y ∷ ys) (suc i) h =
    let one : suc i ≡ 1 + i = omega arith in
    let split : (cond (is_null y) 1 0 + 2 * marks ys) / 2 ^ suc i ≡ (cond (is_null y) 1 0 + 2 * marks ys) / 2 ^ 1 / 2 ^ i = rw one (sym (shr-shr (cond (is_null y) 1 0 + 2 * marks ys) 1 i)) in
    let half : (cond (is_null y) 1 0 + 2 * marks ys) / 2 ^ 1 ≡ marks ys = by (is_null y) in
    ap (λ n. n % 2) (split ∙ ap (λ n. n / 2 ^ i) half) ∙ mark_at ys i (omega arith)
  where
    by : (b : Bool) → (cond b 1 0 + 2 * marks ys) / 2 ^ 1 ≡ marks ys
    by true = omega arith
    by false = omega arith

few_kept : (v : Value) (ys : List Value) (i : ℕ) → length (kept_with v ys) ≤ suc i → length ys ≤ i
few_kept (Int _) ys i h = omega arith
few_kept (Text _) ys i h = omega arith
few_kept (Flag _) ys i h = omega arith
few_kept Null [] i h = omega arith
few_kept Null (y ∷ ys) i h = omega arith

none_kept : (v : Value) (ys : List Value) → length (kept_with v ys) ≤ 0 → v ≡ Null
none_kept (Int _) ys h = absurd (omega arith)
none_kept (Text _) ys h = absurd (omega arith)
none_kept (Flag _) ys h = absurd (omega arith)
none_kept Null ys h = refl

-- behind those that are kept all values are NULL
value_behind : (row : List Value) (i : ℕ) → length (kept row) ≤ i → value_at row i ≡ Null
value_behind [] i h = refl
value_behind (v ∷ vs) zero h = none_kept v (kept vs) h
value_behind (v ∷ vs) (suc i) h = value_behind vs i (few_kept v (kept vs) i h)

value_kept : (row : List Value) (i : ℕ) → i < length (kept row) → value_at row i ≡ get_or (kept row) i Null
value_kept row i lt = sym (ap (λ (ys : List Value). get_or ys i Null) (kept-take row) ∙ get_or-take (length (kept row)) row i Null lt)

pub stands_is : (row : List Value) (place : ℕ) → (IsTrue (stands (length (kept row)) (marks (kept row)) place) → value_at row place ≢ Null) × (value_at row place ≢ Null → IsTrue (stands (length (kept row)) (marks (kept row)) place))
stands_is row place = elim (cases_lt place (length (kept row))) [
  | inl lt ↦ rw (lt-ltb place (length (kept row)) lt, value_kept row place lt) (by (get_or (kept row) place Null) refl (mark_at (kept row) place lt))
  | inr le ↦ rw (le-ltb place (length (kept row)) le, value_behind row place le) (λ t. absurd (true≢false (sym t)), λ n. absurd (n refl))
]
  where
    by : (v : Value) → get_or (kept row) place Null ≡ v → marks (kept row) / 2 ^ place % 2 ≡ cond (is_null v) 1 0
        → (IsTrue (eqb (marks (kept row) / 2 ^ place % 2) 0) → v ≢ Null) × (v ≢ Null → IsTrue (eqb (marks (kept row) / 2 ^ place % 2) 0))
    by (Int _) e h = (λ t n. cc, λ n. rw h refl)
    by (Text _) e h = (λ t n. cc, λ n. rw h refl)
    by (Flag _) e h = (λ t n. cc, λ n. rw h refl)
    by Null e h = (λ t. absurd (let z : marks (kept row) / 2 ^ place % 2 ≡ 0 = eqb-true _ 0 t in omega arith), λ n. absurd (n refl))

pub all_stand_is : (row : List Value) (key : List ℕ) → (All (λ place. IsTrue (stands (length (kept row)) (marks (kept row)) place)) key → All (λ place. value_at row place ≢ Null) key)
    × (All (λ place. value_at row place ≢ Null) key → All (λ place. IsTrue (stands (length (kept row)) (marks (kept row)) place)) key)
all_stand_is row key = (λ all k d lt. (stands_is row (get_or key k d)).0 (all k d lt), λ all k d lt. (stands_is row (get_or key k d)).1 (all k d lt))

-- ---- the test of a row

pub test_found : (schema : Shape) (marked : Bool) (bytes : List ℕ) (k n : ℕ) → AreRow schema.columns marked bytes
    → k ≡ length (kept (row_of schema.columns marked bytes)) → n ≡ marks (kept (row_of schema.columns marked bytes)) → All (λ place. IsTrue (stands k n place)) schema.key
    → IsRow schema (row_of schema.columns marked bytes) × IsSpelling (row_of schema.columns marked bytes) marked bytes
test_found schema marked bytes k n are kept_is nulls_is all =
    let row = row_of schema.columns marked bytes in
    let same : All (λ place. IsTrue (stands (length (kept row)) (marks (kept row)) place)) schema.key = subst (λ m. All (λ place. IsTrue (stands (length (kept row)) m place)) schema.key) nulls_is
    (subst (λ m. All (λ place. IsTrue (stands m n place)) schema.key) kept_is all) in
    spelled_row schema marked bytes row are ((all_stand_is row schema.key).0 same)

pub test_only : (schema : Shape) (marked : Bool) (bytes : List ℕ) (k n : ℕ) (row : List Value) → IsRow schema row → IsSpelling row marked bytes
    → k ≡ length (kept (row_of schema.columns marked bytes)) → n ≡ marks (kept (row_of schema.columns marked bytes))
    → All (λ place. IsTrue (stands k n place)) schema.key × (row ≡ row_of schema.columns marked bytes)
test_only schema marked bytes k n row is spelling kept_is nulls_is =
    let same = row_is schema.columns marked bytes row (row_spelled schema marked bytes row is spelling) in
    let all = (all_stand_is row schema.key).1 is.fits.keyed in (
      subst (λ m. All (λ place. IsTrue (stands k m place)) schema.key) (ap (λ (r : List Value). marks (kept r)) same ∙ sym nulls_is)
          (subst (λ m. All (λ place. IsTrue (stands m (marks (kept row)) place)) schema.key) (ap (λ (r : List Value). length (kept r)) same ∙ sym kept_is) all),
      same,
    )
