-- Records of parents as a commit sees them, and which of them a new version shares.
--     pairs_of records      each as its rid and its row
--     has_record parent r      whether the parent has this rid with this row
--     shared records parent      how many of these records the parent has
--     InKeyOrder s records      in key order; equal keys may follow one another
--     RowsFit s records      each has a row of the schema
use Rattle.std.specs.Prelude.{ℕ, ◌+◌, ◌-◌, ◌^◌, ◌<◌, Bool, ◌==◌, ◌&&◌, List, map, count_by}
use Rattle.std.specs.List.{All, list_any}
use Rattle.std.specs.List.Sorted.{IsSorted}
use Rattle.ov_value.specs.Rows.{Fits, key_cmp}
use Rattle.ov_value.specs.Shapes.{Shape}
use Rattle.ov_segment.specs.declared.numbered.Record.{Record}
use Rattle.ov_model.specs.Book.{Row}
use Rattle.ov_model.specs.Records.{is_same_row}

abbrev pub pairs_of : List Record → List (ℕ × Row)
pairs_of records = map (λ r. (r.rid, r.row)) records

abbrev pub lists_of : List (List Record) → List (List (ℕ × Row))
lists_of parents = map pairs_of parents

abbrev pub has_record : List (ℕ × Row) → ℕ × Row → Bool
has_record parent r = list_any (λ x. (x.0 == r.0) && is_same_row r.1 x.1) parent

abbrev pub shared : List (ℕ × Row) → List (ℕ × Row) → ℕ
shared records parent = count_by (has_record parent) records

abbrev pub InKeyOrder : Shape → List Record → Type 0
InKeyOrder schema records = IsSorted (λ a b. key_cmp schema a.row b.row) records

abbrev pub RowsFit : Shape → List Record → Type 0
RowsFit schema records = All (Fits schema) (map (λ r. r.row) records)

-- so many new rids from this one on, at least one, and the last of them would pass 2^31
abbrev pub WouldPass : ℕ → ℕ → Type 0
WouldPass next fresh = (0 < fresh) × (2 ^ 31 < next + fresh - 1)
