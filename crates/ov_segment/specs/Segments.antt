-- Segments: records one after another.
--     record_bytes r      its rid, the length of its row's bytes with the mark in the highest bit, and these bytes
--     segment_spelling rs      the records' bytes, one after another
--     IsNext s last r      a record that may follow the rid `last`
--     AreRecords s last rs      records that may follow it: rids strictly ascend
use Rattle.std.specs.Prelude.{ℕ, ◌+◌, ◌^◌, ◌<◌, ◌≤◌, Bool, if◌then◌else◌, List, [], ◌∷◌, ◌++◌, length}
use Rattle.std.specs.List.{flat_map}
use Rattle.std.specs.Int.{w32, to_be_bytes}
use Rattle.ov_value.specs.Shapes.{Shape}
use Rattle.ov_value.specs.Spelling.{row_spelling, IsRow}
use Rattle.ov_segment.specs.declared.numbered.Record.{Record}

-- a length of 32 bits whose highest says that a row's bytes begin with marks
abbrev pub with_mark : Bool → ℕ → ℕ
with_mark marked len = len + (if marked then 2 ^ 31 else 0)

unfoldable pub record_bytes : Record → List ℕ
record_bytes r =
    to_be_bytes w32 r.rid
    ++ (to_be_bytes w32 (with_mark (row_spelling r.row).marked (length (row_spelling r.row).bytes))
    ++ (row_spelling r.row).bytes)

abbrev pub segment_spelling : List Record → List ℕ
segment_spelling records = flat_map record_bytes records

-- a rid above the last one and from 1 to 2^31, and a row of at most 65,536 bytes
pub record IsNext (schema : Shape) (last : ℕ) (r : Record) : Type 0 where
  pub above : last < r.rid
  pub below : r.rid ≤ 2 ^ 31
  pub row : IsRow schema r.row
  pub small : length (row_spelling r.row).bytes ≤ 65536

abbrev pub AreRecords : Shape → ℕ → List Record → Type 0
AreRecords schema last [] = Unit {0}
AreRecords schema last (r ∷ records) = IsNext schema last r × AreRecords schema r.rid records

-- the rid of the last of these records, or the last one before them
abbrev pub last_of : ℕ → List Record → ℕ
last_of last [] = last
last_of last (r ∷ records) = last_of r.rid records

-- numbers above the last one and up to 2^31 that strictly ascend
abbrev pub Ascend : ℕ → List ℕ → Type 0
Ascend last [] = Unit {0}
Ascend last (n ∷ ns) = (last < n) × (n ≤ 2 ^ 31) × Ascend n ns
