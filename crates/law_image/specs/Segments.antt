-- Segments, read from bytes: each record as its rid and the bytes of its row.
--     segment_bytes kept      the bytes of records
--     segment_in bytes      the records, exactly where the bytes are a segment's
use Rattle.std.specs.Prelude.{ℕ, zero, suc, ◌+◌, ◌%◌, ◌^◌, ◌<◌, ◌≤◌, Bool, true, ◌&&◌, nat_le, nat_lt, if◌then◌else◌, List, [], ◌∷◌, ◌++◌, length, take, drop, Option, Some, None}
use Rattle.std.specs.List.{flat_map}
use Rattle.std.specs.Int.{w32, to_be_bytes}
use Rattle.std.specs.Str.{bytes_eq}
use Rattle.ov_value.specs.declared.spelled.RowBytes.{RowBytes}
use Rattle.ov_value.specs.Spelling.{row_spelling}
use Rattle.ov_segment.specs.declared.numbered.Record.{Record}
use Rattle.ov_segment.specs.Segments.{with_mark}
use Rattle.ov_catalog.specs.Shown.{Records}
use Rattle.law_image.specs.Lists.{number_at}

abbrev pub kept_bytes : ℕ × RowBytes → List ℕ
kept_bytes kept = to_be_bytes w32 kept.0 ++ (to_be_bytes w32 (with_mark kept.1.marked (length kept.1.bytes)) ++ kept.1.bytes)

abbrev pub segment_bytes : Records → List ℕ
segment_bytes records = flat_map kept_bytes records

-- Rids above the last one and up to 2^31 that strictly ascend, and no row of more than 65,536 bytes. Whether a row's bytes
-- spell a row of the schema isn't asked here: what they are compared with does.
abbrev pub AreKept : ℕ → Records → Type 0
AreKept last [] = Unit {0}
AreKept last (kept ∷ records) = (last < kept.0) × (kept.0 ≤ 2 ^ 31) × (length kept.1.bytes ≤ 65536) × AreKept kept.0 records

abbrev pub are_kept : ℕ → Records → Bool
are_kept last [] = true
are_kept last (kept ∷ records) =
    (nat_lt last kept.0 && (nat_le kept.0 (2 ^ 31) && nat_le (length kept.1.bytes) 65536)) && are_kept kept.0 records

-- what the first bytes say: a rid, a length with the mark in its highest bit, and as many bytes as it says
abbrev pub len_at : List ℕ → ℕ
len_at bytes = number_at (drop 4 bytes) % 2 ^ 31

abbrev pub kept_at : List ℕ → ℕ × RowBytes
kept_at bytes =
    (number_at bytes, record { marked = nat_le (2 ^ 31) (number_at (drop 4 bytes)); bytes = take (len_at bytes) (drop 8 bytes) })

-- what the bytes say one after another, at most so many
abbrev pub records_in : ℕ → List ℕ → Records
records_in zero bytes = []
records_in (suc most) [] = []
records_in (suc most) (byte ∷ bytes) =
    kept_at (byte ∷ bytes) ∷ records_in most (drop (8 + len_at (byte ∷ bytes)) (byte ∷ bytes))

-- records, where they are a segment's and these are its bytes
abbrev pub segment_of : Records → List ℕ → Option Records
segment_of records bytes = if are_kept 0 records && bytes_eq (segment_bytes records) bytes then Some records else None

abbrev pub segment_in : List ℕ → Option Records
segment_in bytes = segment_of (records_in (length bytes) bytes) bytes

-- a record as its rid and the bytes of its row
abbrev pub as_kept : Record → ℕ × RowBytes
as_kept r = (r.rid, row_spelling r.row)
