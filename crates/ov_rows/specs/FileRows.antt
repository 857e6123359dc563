-- The rows of a file beside their numbers.
--     numbered nth rows      the rows with their numbers, counted from nth on
--     lines_at rows order      those at these positions, in this order
--     file_row_cmp schema a b      by key, and those of one key by their numbers
--     least_repeat schema None rows      of the rows that have the key of the one before them the least number
use Rattle.std.specs.Prelude.{ℕ, ◌+◌, ◌-◌, min, nat_lt, if◌then◌else◌, List, [], ◌∷◌, length, map, slice_index_or, Option, Some, None}
use Rattle.std.specs.Ordering.{nat_cmp, is_eq, ordering_then}
use Rattle.std.specs.declared.cmp.Ordering.{Ordering}
use Rattle.ov_value.specs.Rows.{key_cmp}
use Rattle.ov_value.specs.Shapes.{Shape}
use Rattle.ov_model.specs.Book.{Row}

-- a row of a file, and its number there, counted from 1
pub record FileRow : Type 0 where
  pub row : Row
  pub nth : ℕ

abbrev pub numbered : ℕ → List Row → List FileRow
numbered nth [] = []
numbered nth (row ∷ rows) = record { row = row; nth = nth } ∷ numbered (nth + 1) rows

abbrev pub file_row_cmp : Shape → FileRow → FileRow → Ordering
file_row_cmp schema a b = ordering_then (key_cmp schema a.row b.row) (nat_cmp a.nth b.nth)

-- the row at a position, counted from 0, with its number
abbrev pub line_at : List Row → ℕ → FileRow
line_at rows i = record { row = slice_index_or rows i []; nth = i + 1 }

abbrev pub lines_at : List Row → List ℕ → List FileRow
lines_at rows order = map (line_at rows) order

-- the row at a position, and past the last the last one
abbrev pub row_near : List Row → ℕ → Row
row_near rows i = slice_index_or rows (min i (length rows - 1)) []

-- by the keys of their rows, and those of one key by themselves
abbrev pub position_cmp : Shape → List Row → ℕ → ℕ → Ordering
position_cmp schema rows a b = ordering_then (key_cmp schema (row_near rows a) (row_near rows b)) (nat_cmp a b)

abbrev pub lesser : Option ℕ → ℕ → ℕ
lesser None n = n
lesser (Some m) n = if nat_lt m n then m else n

-- `least` is the least number so far, and `a` the row before these
abbrev pub least_behind : Shape → Option ℕ → FileRow → List FileRow → Option ℕ
least_behind schema least a [] = least
least_behind schema least a (b ∷ rows) =
    least_behind schema (if is_eq (key_cmp schema a.row b.row) then Some (lesser least b.nth) else least) b rows

abbrev pub least_repeat : Shape → Option ℕ → List FileRow → Option ℕ
least_repeat schema least [] = least
least_repeat schema least (a ∷ rows) = least_behind schema least a rows
