-- Rids given as a commit goes, from its parents' records as they are stored: each a rid and a row.
--     assigned rows parents next      the rid of each row: that of the first equal row of the first listed parent that has one,
--         or else the next number, counted from `next`
--     stored rs all      records as rid and row, by their places among all
use Rattle.std.specs.List.{list_any}
use Rattle.std.specs.Prelude.{ℕ, ◌+◌, Bool, ◌==◌, if◌then◌else◌, List, [], ◌∷◌, length, map, filter, Option, Some, None}
use Rattle.ov_model.specs.Book.{Row}
use Rattle.ov_model.specs.Records.{Rec, is_same_row, of_version, first_of, rid_in}

abbrev pub rid_of_row : List (ℕ × Row) → Row → Option ℕ
rid_of_row [] row = None
rid_of_row (r ∷ rs) row = if is_same_row row r.1 then Some r.0 else rid_of_row rs row

abbrev pub rid_by : List (List (ℕ × Row)) → Row → Option ℕ
rid_by [] row = None
rid_by (p ∷ ps) row = first_of (rid_of_row p row) (rid_by ps row)

abbrev pub or_next : Option ℕ → ℕ → ℕ
or_next (Some rid) next = rid
or_next None next = next

abbrev pub next_after : Option ℕ → ℕ → ℕ
next_after (Some rid) next = next
next_after None next = next + 1

abbrev pub assigned : List Row → List (List (ℕ × Row)) → ℕ → List ℕ
assigned [] parents next = []
assigned (row ∷ rows) parents next = or_next (rid_by parents row) next ∷ assigned rows parents (next_after (rid_by parents row) next)

-- how many of them are new
abbrev pub fresh_rows : List Row → List (List (ℕ × Row)) → ℕ
fresh_rows [] parents = 0
fresh_rows (row ∷ rows) parents = next_after (rid_by parents row) (fresh_rows rows parents)

abbrev pub stored : List Rec → List Rec → List (ℕ × Row)
stored rs all = map (λ r. (rid_in all r, r.row)) rs

-- the records of each of these versions, as they are stored
abbrev pub stored_parents : List ℕ → List (List Rec) → List Rec → List (List (ℕ × Row))
stored_parents parents done all = map (λ p. stored (of_version done p) all) parents

-- how many of these rids a parent has
abbrev pub has_rid : List (ℕ × Row) → ℕ → Bool
has_rid parent rid = list_any (λ r. r.0 == rid) parent

abbrev pub shared_with : List ℕ → List (ℕ × Row) → ℕ
shared_with rids parent = length (filter (has_rid parent) rids)
