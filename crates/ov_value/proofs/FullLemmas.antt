-- A row of which no value is NULL.
use Rattle.std.proofs.Common.{◌≡◌, ◌<◌, ◌^◌, ◌/◌, ◌%◌, ℕ, false, IsTrue, List, length, refl, sym, ap, subst}
use Rattle.std.proofs.Math.Nat.{zero-div}
use Rattle.std.proofs.lemmas.Bool.{lt-ltb}
use Rattle.std.specs.List.{All}
use Rattle.ov_value.specs.declared.column.Column.{Column}
use Rattle.ov_value.specs.Shapes.{Shape}
use Rattle.ov_value.specs.Spelling.{IsSpelling, IsRow, kept}
use Rattle.ov_value.specs.Decoding.{decoded, row_of, stands, CanRead}
use Rattle.ov_value.proofs.Standing.{plain_row, test_found}

no_mark : (place : ℕ) → 0 / 2 ^ place % 2 ≡ 0
no_mark place = ap (λ n. n % 2) (zero-div (2 ^ place))

stands_full : (k place : ℕ) → place < k → IsTrue (stands k 0 place)
stands_full k place low = rw (lt-ltb place k low, no_mark place) refl

pub full_row : (schema : Shape) (bytes : List ℕ) (columns : List Column) → columns ≡ schema.columns → All (λ place. place < length schema.columns) schema.key → CanRead columns 0 bytes
    → length columns ≡ length (kept (decoded columns 0 bytes)) → IsRow schema (row_of schema.columns false bytes) × IsSpelling (row_of schema.columns false bytes) false bytes
full_row schema bytes columns same placed can kept_is =
    let can' : CanRead schema.columns 0 bytes = subst (λ (l : List Column). CanRead l 0 bytes) same can in
    let kept_are : length schema.columns ≡ length (kept (decoded schema.columns 0 bytes)) = subst (λ (l : List Column). length l ≡ length (kept (decoded l 0 bytes))) same kept_is in
    test_found schema false bytes (length schema.columns) 0 (plain_row schema.columns bytes can') kept_are (sym can'.marked)
    (λ k d low. stands_full (length schema.columns) _ (placed k d low))
