-- A row with columns more, which are NULL: it has the bytes that the row has.
--     spelling_longer      so it is of what a row spells
--     row_longer      and of the row that bytes spell
use Rattle.std.proofs.Common.{◌≡◌, ℕ, zero, suc, Bool, List, [], ◌∷◌, ◌++◌, length, sym, ◌∙◌, ap, refl, subst}
use Rattle.std.specs.Prelude.{replicate}
use Rattle.std.specs.List.{list_any, flat_map, AllByRecursion}
use Rattle.ov_value.specs.Decoding.{row_of, AreRow}
use Rattle.ov_value.specs.Reading.{HasSpelling, Spelled}
use Rattle.ov_value.specs.Rows.{HasKinds, is_null}
use Rattle.ov_value.specs.Spelling.{kept, kept_with, mark_bytes, row_spelling, value_bytes}
use Rattle.ov_value.specs.declared.column.Column.{Column}
use Rattle.ov_value.specs.declared.value.Value.{Value}
use Rattle.ov_value.specs.declared.value.Value.TheVariants.{Null}
use Rattle.ov_value.proofs.Standing.{row_is}

nulls_bytes : (n : ℕ) → flat_map value_bytes (replicate n Null) ≡ []
nulls_bytes zero = refl
nulls_bytes (suc n) = nulls_bytes n

bytes_longer : (row : List Value) (n : ℕ) → flat_map value_bytes (row ++ replicate n Null) ≡ flat_map value_bytes row
bytes_longer [] n = nulls_bytes n
bytes_longer (value ∷ row) n = ap (λ bytes. value_bytes value ++ bytes) (bytes_longer row n)

kept_nulls : (n : ℕ) → kept (replicate n Null) ≡ []
kept_nulls zero = refl
kept_nulls (suc n) = ap (kept_with Null) (kept_nulls n)

kept_longer : (row : List Value) (n : ℕ) → kept (row ++ replicate n Null) ≡ kept row
kept_longer [] n = kept_nulls n
kept_longer (value ∷ row) n = ap (kept_with value) (kept_longer row n)

pub spelling_longer : (row : List Value) (n : ℕ) → row_spelling (row ++ replicate n Null) ≡ row_spelling row
unfolding row_spelling
spelling_longer row n = λ i. record {
  marked = list_any is_null (kept_longer row n i);
  bytes = mark_bytes (kept_longer row n i) ++ bytes_longer row n i;
}

-- ---- the row that bytes spell

nulls_kinds : (added : List Column) → HasKinds (replicate (length added) Null) added
nulls_kinds [] = tt
nulls_kinds (column ∷ added) = (tt, nulls_kinds added)

pub kinds_longer : (row : List Value) (columns added : List Column) → HasKinds row columns → HasKinds (row ++ replicate (length added) Null) (columns ++ added)
kinds_longer [] [] added has = nulls_kinds added
kinds_longer [] (column ∷ columns) added has = absurd has
kinds_longer (value ∷ row) [] added has = absurd has
kinds_longer (value ∷ row) (column ∷ columns) added has = (has.0, kinds_longer row columns added has.1)

nulls_spelled : (n : ℕ) → AllByRecursion HasSpelling (replicate n Null)
nulls_spelled zero = tt
nulls_spelled (suc n) = ((tt, tt), nulls_spelled n)

all_longer : (row : List Value) (n : ℕ) → AllByRecursion HasSpelling row → AllByRecursion HasSpelling (row ++ replicate n Null)
all_longer [] n all = nulls_spelled n
all_longer (value ∷ row) n all = (all.0, all_longer row n all.1)

spelled_longer : (columns added : List Column) (marked : Bool) (bytes : List ℕ) (row : List Value) → Spelled columns marked bytes row
    → Spelled (columns ++ added) marked bytes (row ++ replicate (length added) Null)
spelled_longer columns added marked bytes row is = record {
  kinds = kinds_longer row columns added is.kinds;
  spelled = all_longer row (length added) is.spelled;
  marked_is = ap (list_any is_null) (kept_longer row (length added)) ∙ is.marked_is;
  bytes_are = is.bytes_are ∙ sym (λ i. mark_bytes (kept_longer row (length added) i) ++ bytes_longer row (length added) i);
}

pub row_longer : (columns added : List Column) (marked : Bool) (bytes : List ℕ) → AreRow columns marked bytes
    → AreRow (columns ++ added) marked bytes × (row_of (columns ++ added) marked bytes ≡ row_of columns marked bytes ++ replicate (length added) Null)
row_longer columns added marked bytes is =
    let longer : Spelled (columns ++ added) marked bytes (row_of columns marked bytes ++ replicate (length added) Null) =
    spelled_longer columns added marked bytes (row_of columns marked bytes) is
    in let same : row_of columns marked bytes ++ replicate (length added) Null ≡ row_of (columns ++ added) marked bytes =
    row_is (columns ++ added) marked bytes (row_of columns marked bytes ++ replicate (length added) Null) longer
    in (subst (λ row. Spelled (columns ++ added) marked bytes row) same longer, sym same)
