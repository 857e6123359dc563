-- The values of a row are read from its bytes.
use Rattle.std.proofs.Common.{ℕ, Bool, true, false, List, length, sym, subst}
use Rattle.std.specs.List.{flat_map}
use Rattle.ov_value.specs.declared.column.Column.{Column}
use Rattle.ov_value.specs.Spelling.{value_bytes, kept, marks}
use Rattle.ov_value.specs.Decoding.{CanRead, nulls_of, body_of, row_of, AreRow}
use Rattle.ov_value.proofs.MarkLemmas.{spelled_marks, marked_row}
use Rattle.ov_value.proofs.Decoded.{can_read}
use Rattle.ov_value.proofs.Standing.{begin_is, plain_can}

pub can_row : (columns : List Column) (marked : Bool) (bytes : List ℕ) → AreRow columns marked bytes → CanRead columns (nulls_of marked bytes) (body_of marked bytes)
can_row columns false bytes are = plain_can columns bytes (row_of columns false bytes) are
can_row columns true bytes are =
    let row = row_of columns true bytes in
    let width = length (kept row) in
    let nulls = marks (kept row) in
    let rest = flat_map value_bytes row in
    let begin = (spelled_marks columns bytes row are).1 in
    let is = begin_is bytes width nulls rest begin in
    let can = can_read columns nulls rest row (marked_row columns bytes width nulls rest row begin are).lies in
    subst (λ n. CanRead columns n (body_of true bytes)) (sym is.0) (subst (λ (l : List ℕ). CanRead columns nulls l) (sym is.1) can)
