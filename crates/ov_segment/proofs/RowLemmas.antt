-- Rows where their bytes lie: their spelling, and their equality.
use Rattle.std.proofs.Common.{◌≡◌, ℕ, Bool, List, sym}
use Rattle.ov_value.specs.declared.column.Column.{Column}
use Rattle.ov_value.specs.Rows.{HasKinds}
use Rattle.ov_value.specs.Spelling.{row_spelling}
use Rattle.ov_value.specs.Decoding.{row_of, AreRow}
use Rattle.ov_segment.proofs.SameLemmas.{same_rows, same_bytes}

pub spelled_so : (columns : List Column) (marked : Bool) (bytes : List ℕ) → AreRow columns marked bytes
    → (marked ≡ (row_spelling (row_of columns marked bytes)).marked) × (bytes ≡ (row_spelling (row_of columns marked bytes)).bytes)
unfolding row_spelling
spelled_so columns marked bytes s = (sym s.marked_is, s.bytes_are)

pub same_as : (first second columns : List Column) (m n : Bool) (a b : List ℕ) → AreRow first m a → AreRow second n b
    → HasKinds (row_of first m a) columns → HasKinds (row_of second n b) columns
    → ((m ≡ n) × (a ≡ b) → row_of first m a ≡ row_of second n b) × (row_of first m a ≡ row_of second n b → (m ≡ n) × (a ≡ b))
same_as first second columns m n a b p q kinds other = (same_rows first second columns m n a b _ _ p q kinds other, same_bytes first second m n a b _ _ p q)
