-- Marks as bytes, and the rows that they are of.
use Rattle.std.proofs.Common.{◌≡◌, ◌≢◌, ◌<◌, ◌≤◌, ◌+◌, ◌*◌, ◌/◌, ◌%◌, ◌==◌, ◌^◌, ◌||◌, ℕ, zero, suc, Bool, true, false, cond, List, [], ◌∷◌, ◌++◌, length, refl, sym, ◌∙◌, ap, subst, arith}
use Rattle.std.proofs.Math.Nat.{pow-suc, pow-le-pow_right}
use Rattle.std.proofs.lemmas.Nat.{pow-add}
use Rattle.std.proofs.lemmas.Bool.{true_from_ne_false}
use Rattle.std.specs.List.{flat_map, list_any, All}
use Rattle.std.proofs.lemmas.List.Elements.{All-from_recursion, recursion_from_All}
use Rattle.ov_value.specs.declared.column.Column.{Column}
use Rattle.ov_value.specs.declared.spelled.RowBytes.{RowBytes}
use Rattle.ov_value.specs.declared.value.Value.{Value}
use Rattle.ov_value.specs.declared.value.Value.TheVariants.{Null}
use Rattle.ov_value.specs.Shapes.{Shape}
use Rattle.ov_value.specs.Rows.{is_null, value_at}
use Rattle.ov_value.specs.Spelling.{value_bytes, kept, marks, low_bytes, mark_bytes, row_spelling, IsSpelling, IsRow}
use Rattle.ov_value.specs.Reading.{Lies, Spelled, Finds, AreMarks, BeginWithMarks, HasSpelling}
use Rattle.ov_value.proofs.RowLemmas.{length-HasKinds}
use Rattle.ov_value.proofs.KeptLemmas.{length-kept, marks-less}
use Rattle.ov_value.proofs.LowBytes.{length-low_bytes, low_bytes-injective}
use Rattle.ov_value.proofs.Parts.{lies_front, lies_end, steps_same}

-- no marks where nothing is NULL
pub marks_none : (xs : List Value) → list_any is_null xs ≡ false → marks xs ≡ 0
marks_none [] e = refl
marks_none (x ∷ xs) e =
    elim (is_null x) as (λ b. (b || list_any is_null xs) ≡ false → cond b 1 0 + 2 * marks xs ≡ 0) [
      | true ↦ λ h. cc
      | false ↦ λ h. omega (arith, marks_none xs h)
    ] e

-- a mark where something is
pub marks_some : (xs : List Value) → list_any is_null xs ≡ true → 0 < marks xs
marks_some [] e = cc
marks_some (x ∷ xs) e =
    elim (is_null x) as (λ b. (b || list_any is_null xs) ≡ true → 0 < cond b 1 0 + 2 * marks xs) [
      | true ↦ λ h. omega arith
      | false ↦ λ h. omega (arith, marks_some xs h)
    ] e

bytes_of_bits : (count : ℕ) → 256 ^ count ≡ 2 ^ (8 * count)
bytes_of_bits zero = refl
bytes_of_bits (suc count) =
    let bits : 8 * suc count ≡ 8 * count + 8 = omega arith in
    rw (bits, pow-add 2 (8 * count) 8, pow-suc 256 count, bytes_of_bits count) refl

-- as many bytes as have a bit for each value have room for the marks
marks-small : (xs : List Value) → marks xs < 256 ^ ((length xs + 7) / 8)
marks-small xs =
    let room : 2 ^ length xs ≤ 2 ^ (8 * ((length xs + 7) / 8)) = pow-le-pow_right (omega arith) (omega arith) in
    rw bytes_of_bits (omega (arith, marks-less xs, room))

mark_bytes_some : (xs : List Value) → list_any is_null xs ≡ true → mark_bytes xs ≡ length xs ∷ low_bytes ((length xs + 7) / 8) (marks xs)
mark_bytes_some xs e = rw e refl

pub mark_bytes_none : (xs : List Value) → list_any is_null xs ≡ false → mark_bytes xs ≡ []
mark_bytes_none xs e = rw e refl

pub length-mark_bytes : (xs : List Value) → list_any is_null xs ≡ true → 1 + (length xs + 7) / 8 ≡ length (mark_bytes xs)
length-mark_bytes xs e = rw (mark_bytes_some xs e) (omega (arith, length-low_bytes ((length xs + 7) / 8) (marks xs)))

-- ---- plain

pub plain_lies : (columns : List Column) (bytes : List ℕ) (row : List Value) → Spelled columns false bytes row → Lies columns 0 bytes row
plain_lies columns bytes row s = record {
  kinds = s.kinds;
  spelled = s.spelled;
  marked = marks_none (kept row) s.marked_is;
  bytes_are = s.bytes_are ∙ ap (λ (l : List ℕ). l ++ flat_map value_bytes row) (mark_bytes_none (kept row) s.marked_is);
}

-- ---- marked

pub spelled_marks : (columns : List Column) (bytes : List ℕ) (row : List Value) → Spelled columns true bytes row
    → (length (kept row) ≤ length columns) × BeginWithMarks bytes (length (kept row)) (marks (kept row)) (flat_map value_bytes row)
spelled_marks columns bytes row s = (
  omega (arith, length-kept row, length-HasKinds row columns s.kinds),
  record {
    small = marks-small (kept row);
    bytes_are = s.bytes_are ∙ ap (λ (l : List ℕ). l ++ flat_map value_bytes row) (mark_bytes_some (kept row) s.marked_is);
  },
)

-- the marks that were found are those of each row with these bytes
pub record Marked (columns : List Column) (width nulls : ℕ) (rest : List ℕ) (row : List Value) : Type 0 where
  pub lies : Lies columns nulls rest row
  pub are : AreMarks row width nulls

pub marked_row : (columns : List Column) (bytes : List ℕ) (width nulls : ℕ) (rest : List ℕ) (row : List Value) → BeginWithMarks bytes width nulls rest → Spelled columns true bytes row → Marked columns width nulls rest row
marked_row columns bytes width nulls rest row begin s =
    let own = (spelled_marks columns bytes row s).1 in
    let e : width ∷ (low_bytes ((width + 7) / 8) nulls ++ rest) ≡ length (kept row) ∷ (low_bytes ((length (kept row) + 7) / 8) (marks (kept row)) ++ flat_map value_bytes row) = sym begin.bytes_are ∙ own.bytes_are in
    let widths : width ≡ length (kept row) = cc in
    let tails : low_bytes ((width + 7) / 8) nulls ++ rest ≡ low_bytes ((length (kept row) + 7) / 8) (marks (kept row)) ++ flat_map value_bytes row = cc in
    let same = low_bytes-injective ((width + 7) / 8) nulls (marks (kept row)) rest (flat_map value_bytes row) begin.small
    (subst (λ w. marks (kept row) < 256 ^ ((w + 7) / 8)) (sym widths) own.small)
    (tails ∙ ap (λ w. low_bytes ((w + 7) / 8) (marks (kept row)) ++ flat_map value_bytes row) (sym widths)) in
    record {
      lies = record { kinds = s.kinds; spelled = s.spelled; marked = sym same.0; bytes_are = same.1 };
      are = record { width_is = sym widths; some = λ z. omega (arith, marks_some (kept row) s.marked_is, same.0, z); marks_are = sym same.0 };
    }

pub marked_spelled : (columns : List Column) (bytes : List ℕ) (width nulls : ℕ) (rest : List ℕ) (values : List Value) → BeginWithMarks bytes width nulls rest → Finds columns nulls rest values → AreMarks values width nulls → Spelled columns true bytes values
marked_spelled columns bytes width nulls rest values begin found are =
    let some : list_any is_null (kept values) ≡ true = true_from_ne_false (list_any is_null (kept values)) (λ e. are.some (sym are.marks_are ∙ marks_none (kept values) e)) in
    record {
      kinds = found.kinds;
      spelled = found.spelled;
      marked_is = some;
      bytes_are = begin.bytes_are ∙ rw (← are.width_is, ← are.marks_are, found.bytes_are, mark_bytes_some (kept values) some) refl;
    }

-- ---- a row of a schema

pub row_spelled : (schema : Shape) (marked : Bool) (bytes : List ℕ) (row : List Value) → IsRow schema row → IsSpelling row marked bytes → Spelled schema.columns marked bytes row
unfolding row_spelling
row_spelled schema marked bytes row r e = record {
  kinds = r.fits.kinds;
  spelled = recursion_from_All HasSpelling row (λ k d h. (r.typed k d h, r.short k d h));
  marked_is = sym e.0;
  bytes_are = e.1;
}

pub spelled_row : (schema : Shape) (marked : Bool) (bytes : List ℕ) (row : List Value) → Spelled schema.columns marked bytes row → All (λ place. value_at row place ≢ Null) schema.key → IsRow schema row × IsSpelling row marked bytes
unfolding row_spelling
spelled_row schema marked bytes row s keyed =
    let all : All HasSpelling row = All-from_recursion HasSpelling row s.spelled in (
      record {
        fits = record { kinds = s.kinds; keyed = keyed };
        typed = λ k d h. (all k d h).0;
        short = λ k d h. (all k d h).1;
      },
      (sym s.marked_is, s.bytes_are),
    )

-- ---- no bytes spell two rows

lies_same : (columns : List Column) (nulls : ℕ) (bytes : List ℕ) (a b : List Value) → Lies columns nulls bytes a → Lies columns nulls bytes b → a ≡ b
lies_same [] nulls bytes a b p q = (lies_end nulls bytes a p).0 ∙ sym (lies_end nulls bytes b q).0
lies_same (column ∷ columns) nulls bytes a b p q =
    let first = lies_front column columns nulls bytes a p in
    let second = lies_front column columns nulls bytes b q in
    let same = steps_same column.kind (nulls % 2 == 1) bytes first.value (flat_map value_bytes first.tail) second.value (flat_map value_bytes second.tail) first.steps second.steps in
    let tails : first.tail ≡ second.tail =
    lies_same columns (nulls / 2) (flat_map value_bytes first.tail) first.tail second.tail first.lies
    (subst (λ (l : List ℕ). Lies columns (nulls / 2) l second.tail) (sym same.1) second.lies) in
    first.row_is ∙ (λ i. same.0 i ∷ tails i) ∙ sym second.row_is

spelled_same : (columns : List Column) (marked : Bool) (bytes : List ℕ) (a b : List Value) → Spelled columns marked bytes a → Spelled columns marked bytes b → a ≡ b
spelled_same columns false bytes a b p q = lies_same columns 0 bytes a b (plain_lies columns bytes a p) (plain_lies columns bytes b q)
spelled_same columns true bytes a b p q =
    let begin = (spelled_marks columns bytes a p).1 in
    lies_same columns _ _ a b (marked_row columns bytes _ _ _ a begin p).lies (marked_row columns bytes _ _ _ b begin q).lies

pub rows_same : (schema : Shape) (a b : List Value) → IsRow schema a → IsRow schema b → row_spelling a ≡ row_spelling b → a ≡ b
rows_same schema a b p q e =
    spelled_same schema.columns (row_spelling b).marked (row_spelling b).bytes a b
    (row_spelled schema _ _ a p (ap (λ (r : RowBytes). r.marked) (sym e), ap (λ (r : RowBytes). r.bytes) (sym e))) (row_spelled schema _ _ b q (refl, refl))
