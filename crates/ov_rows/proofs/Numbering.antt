-- Rows beside their numbers: one more at the end, and the rows alone.
use Rattle.std.proofs.Common.{◌≡◌, ℕ, suc, ◌+◌, List, [], ◌∷◌, ◌++◌, length, map, refl, sym, ◌∙◌, ap, subst, arith}
use Rattle.std.specs.List.Sorted.{IsPermutation}
use Rattle.std.proofs.lemmas.List.Sorted.{IsPermutation-to_front, IsPermutation-pop_more}
use Rattle.ov_model.specs.Book.{Row}
use Rattle.ov_rows.specs.FileRows.{FileRow, numbered}

abbrev pub row_of : FileRow → Row
row_of r = r.row

pub numbered_more : (nth : ℕ) (rows : List Row) (row : Row) → numbered nth (rows ++ row ∷ []) ≡ numbered nth rows ++ record { row = row; nth = nth + length rows } ∷ []
numbered_more nth [] row =
    let same : nth ≡ nth + 0 = omega arith in
    let line : ℕ → List FileRow = λ n. record { row = row; nth = n } ∷ [] in
    ap line same
numbered_more nth (r ∷ rows) row =
    let same : nth + 1 + length rows ≡ nth + suc (length rows) = omega arith in
    let line : ℕ → List FileRow = λ n. record { row = r; nth = nth } ∷ (numbered (nth + 1) rows ++ record { row = row; nth = n } ∷ []) in
    let tail : List FileRow → List FileRow = λ l. record { row = r; nth = nth } ∷ l in
    ap tail (numbered_more (nth + 1) rows row) ∙ ap line same

pub rows_of_numbered : (nth : ℕ) (rows : List Row) → map row_of (numbered nth rows) ≡ rows
rows_of_numbered nth [] = refl
rows_of_numbered nth (r ∷ rows) = ap (λ l. r ∷ l) (rows_of_numbered (nth + 1) rows)

-- a step of the loop that numbers the rows from the last one on
pub one_numbered : (all : List FileRow) (made : List FileRow) (left rest : List Row) (row : Row) (n : ℕ) → left ≡ rest ++ row ∷ [] → n ≡ length rest + 1
    → IsPermutation all (made ++ numbered 1 left) → IsPermutation all ((made ++ record { row = row; nth = n } ∷ []) ++ numbered 1 rest)
one_numbered all made left rest row n is count so_far =
    let same : n ≡ 1 + length rest = omega (arith, count) in
    let line : FileRow = record { row = row; nth = n } in
    let line_at : ℕ → List FileRow = λ m. numbered 1 rest ++ record { row = row; nth = m } ∷ [] in
    let whole : numbered 1 left ≡ numbered 1 rest ++ line ∷ [] = ap (numbered 1) is ∙ numbered_more 1 rest row ∙ ap line_at (sym same) in
    IsPermutation-pop_more all made (numbered 1 left) (numbered 1 rest) line so_far
    (subst (λ l. IsPermutation l (line ∷ numbered 1 rest)) (sym whole) (IsPermutation-to_front (numbered 1 rest) line))
