-- Rows that were read, in front of those to come.
use Rattle.std.proofs.Common.{◌≡◌, ◌+◌, ◌++◌, ◌∷◌, ◌∙◌, [], ℕ, List, Option, length, refl, ap, arith}
use Rattle.std.specs.Prelude.{Result, Ok, Err, Some, None, IfSome}
use Rattle.std.proofs.Common.{length-append}
use Rattle.ov_value.specs.Shapes.{Shape}
use Rattle.ov_model.specs.Book.{Row}
use Rattle.ov_model.specs.Csv.{onto, row_in, row_refusal, rows_from}
use Rattle.ov_model.specs.declared.refusal.Refusal.{Refusal}
use Rattle.ov_csv.specs.declared.csv_err.CsvErr.{CsvErr}
use Rattle.ov_csv.specs.Refusing.{StandsFor, refusal_of}

abbrev pub onto_all : List Row → Result (List Row) Refusal → Result (List Row) Refusal
onto_all [] answer = answer
onto_all (row ∷ rows) answer = onto row (onto_all rows answer)

pub onto_all-push : (rows : List Row) (row : Row) (answer : Result (List Row) Refusal) → onto_all (rows ++ row ∷ []) answer ≡ onto_all rows (onto row answer)
onto_all-push [] row answer = refl
onto_all-push (first ∷ rows) row answer = ap (onto first) (onto_all-push rows row answer)

pub onto_all-ok : (rows : List Row) → onto_all rows (Ok []) ≡ Ok rows
onto_all-ok [] = refl
onto_all-ok (row ∷ rows) = ap (onto row) (onto_all-ok rows)

pub onto_all-err : (rows : List Row) (refusal : Refusal) → onto_all rows (Err refusal) ≡ Err refusal
onto_all-err [] refusal = refl
onto_all-err (row ∷ rows) refusal = ap (onto row) (onto_all-err rows refusal)

-- one row more
pub rows-step : (schema : Shape) (rows : List Row) (nth : ℕ) (fields : List (List ℕ)) (rest : List (List (List ℕ))) → row_refusal schema nth fields ≡ None
    → onto_all rows (rows_from schema nth (fields ∷ rest)) ≡ onto_all (rows ++ row_in schema.columns fields ∷ []) (rows_from schema (nth + 1) rest)
rows-step schema rows nth fields rest none = rw (none, onto_all-push rows (row_in schema.columns fields) (rows_from schema (nth + 1) rest)) refl

pub rows-refused : (schema : Shape) (rows : List Row) (nth : ℕ) (fields : List (List ℕ)) (rest : List (List (List ℕ))) (refusal : Refusal)
    → row_refusal schema nth fields ≡ Some refusal → onto_all rows (rows_from schema nth (fields ∷ rest)) ≡ Err refusal
rows-refused schema rows nth fields rest refusal some = rw some (onto_all-err rows refusal)

-- The answer of a text, from the rows so far and the record at hand: a row more, a refusal, or the end.
abbrev pub IsAnswer : Shape → List (List (List ℕ)) → List Row → ℕ → List (List (List ℕ)) → Type 0
IsAnswer schema start rows nth lines = rows_from schema 1 start ≡ onto_all rows (rows_from schema nth lines)

pub answer-row : (schema : Shape) (start lines after : List (List (List ℕ))) (rows : List Row) (fields : List (List ℕ)) (nth : ℕ)
    → nth ≡ length rows + 1 → IsAnswer schema start rows (length rows + 1) lines → lines ≡ fields ∷ after → row_refusal schema nth fields ≡ None
    → IsAnswer schema start (rows ++ row_in schema.columns fields ∷ []) (length (rows ++ row_in schema.columns fields ∷ []) + 1) after
answer-row schema start lines after rows fields nth n a t none =
    let count : length (rows ++ row_in schema.columns fields ∷ []) + 1 ≡ nth + 1 = simp length-append (omega (arith, n)) in
    rw count (a ∙ rw (t, ← n) (rows-step schema rows nth fields after none))

answer-stands : (o : Option Refusal) (schema : Shape) (start : List (List (List ℕ))) (rows : List Row) (fields : List (List ℕ)) (nth : ℕ) (after : List (List (List ℕ)))
    → rows_from schema 1 start ≡ onto_all rows (rows_from schema nth (fields ∷ after))
    → IfSome o (λ r. row_refusal schema nth fields ≡ Some r) → IfSome o (λ refusal. rows_from schema 1 start ≡ Err refusal)
answer-stands None schema start rows fields nth after a h = h
answer-stands (Some r) schema start rows fields nth after a h = a ∙ rows-refused schema rows nth fields after r h

pub answer-refused : (schema : Shape) (start lines after : List (List (List ℕ))) (rows : List Row) (fields : List (List ℕ)) (nth : ℕ) (why : CsvErr)
    → nth ≡ length rows + 1 → IsAnswer schema start rows (length rows + 1) lines → lines ≡ fields ∷ after
    → StandsFor schema why (row_refusal schema nth fields) → IfSome (refusal_of schema why) (λ refusal. rows_from schema 1 start ≡ Err refusal)
answer-refused schema start lines after rows fields nth why n a t h =
    answer-stands (refusal_of schema why) schema start rows fields nth after (a ∙ rw (t, ← n) refl) h

pub answer-end : (schema : Shape) (start lines : List (List (List ℕ))) (rows : List Row) (nth : ℕ) → IsAnswer schema start rows nth lines → lines ≡ []
    → rows_from schema 1 start ≡ Ok rows
answer-end schema start lines rows nth a t = a ∙ rw t (onto_all-ok rows)
