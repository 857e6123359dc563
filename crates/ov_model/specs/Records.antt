-- Which rows of a dataset's versions are one record, and the numbers of records.
--     recs versions done      the records of each version, in order, after those of the versions before
--     order_of versions      all records by origin, then by key; a record's rid is its place in it, from 1
use Rattle.std.specs.Prelude.{ℕ, zero, suc, ◌+◌, ◌-◌, Bool, not, ◌&&◌, ◌==◌, if◌then◌else◌, List, [], ◌∷◌, ◌++◌, length, map, filter, count_by, slice_index_or, Option, Some, None}
use Rattle.std.specs.List.{list_any}
use Rattle.std.specs.Ordering.{eq_by_cmp}
use Rattle.std.specs.Cmp.Lexicographic.{pointwise}
use Rattle.ov_value.specs.Rows.{value_cmp, key_cmp}
use Rattle.ov_value.specs.Shapes.{Shape}
use Rattle.ov_model.specs.Book.{Row, Version}
use Rattle.ov_model.specs.Lists.{Rises}

-- a row, with the version that first had it among those that it came down from
pub record Rec : Type 0 where
  pub origin : ℕ
  pub row : Row

-- equal values at each column, NULL being equal to NULL alone
abbrev pub is_same_row : Row → Row → Bool
is_same_row a b = pointwise (eq_by_cmp value_cmp) a b

abbrev pub is_same_rec : Rec → Rec → Bool
is_same_rec a b = a.origin == b.origin && is_same_row a.row b.row

-- the origin of the first equal row among these records
abbrev pub origin_in : List Rec → Row → Option ℕ
origin_in [] row = None
origin_in (r ∷ rs) row = if is_same_row row r.row then Some r.origin else origin_in rs row

-- the records of a version by its number; none where there is no such version
abbrev pub of_version : List (List Rec) → ℕ → List Rec
of_version done vid = slice_index_or done (vid - 1) []

abbrev pub first_of : Option ℕ → Option ℕ → Option ℕ
first_of (Some origin) later = Some origin
first_of None later = later

-- the origin that the first listed parent with an equal row gives
abbrev pub origin_by : List ℕ → List (List Rec) → Row → Option ℕ
origin_by [] done row = None
origin_by (p ∷ ps) done row = first_of (origin_in (of_version done p) row) (origin_by ps done row)

abbrev pub or_own : Option ℕ → ℕ → ℕ
or_own (Some origin) own = origin
or_own None own = own

-- a row that no parent has is of the version itself, which is the next after those before
abbrev pub record_of : List ℕ → List (List Rec) → Row → Rec
record_of parents done row = record { origin = or_own (origin_by parents done row) (length done + 1); row = row }

abbrev pub records_of : Version → List (List Rec) → List Rec
records_of v done = map (record_of v.parents done) v.rows

abbrev pub recs : List Version → List (List Rec) → List (List Rec)
recs [] done = done
recs (v ∷ vs) done = recs vs (done ++ records_of v done ∷ [])

-- those of one origin
abbrev pub fresh_in : List Rec → ℕ → List Rec
fresh_in rs origin = filter (λ r. r.origin == origin) rs

-- the fresh records of each version, in order; n is the first version's number
abbrev pub order : List (List Rec) → ℕ → List Rec
order [] n = []
order (rs ∷ rss) n = fresh_in rs n ++ order rss (n + 1)

abbrev pub order_of : List Version → List Rec
order_of versions = order (recs versions []) 1

-- a record's place among these, from 1; one past the last where it isn't there
abbrev pub rid_in : List Rec → Rec → ℕ
rid_in [] r = 1
rid_in (x ∷ xs) r = if is_same_rec r x then 1 else rid_in xs r + 1

-- how many records are in both
abbrev pub weight : List Rec → List Rec → ℕ
weight a b = count_by (λ r. list_any (is_same_rec r) b) a

-- the rows of a version by its number; none where there is no such version
abbrev pub rows_at : List Version → ℕ → List Row
rows_at versions vid = slice_index_or (map (λ v. v.rows) versions) (vid - 1) []

abbrev pub is_among : List Rec → Rec → Bool
is_among rs r = list_any (is_same_rec r) rs

-- those that aren't among the others
abbrev pub lacking : List Rec → List Rec → List Rec
lacking rs others = filter (λ r. not (is_among others r)) rs

-- those of all that are among these, in the order of all
abbrev pub in_order : List Rec → List Rec → List Rec
in_order all rs = filter (is_among rs) all

-- the records of the version that comes behind these, in the order of their rids
abbrev pub ordered_records : List Version → Version → List Rec
ordered_records versions v = in_order (order_of (versions ++ v ∷ [])) (records_of v (recs versions []))

-- the parents with the weights of their edges, in the order in which they were listed
abbrev pub weights : List ℕ → List Rec → List (List Rec) → List (ℕ × ℕ)
weights [] rs done = []
weights (p ∷ ps) rs done = (p, weight rs (of_version done p)) ∷ weights ps rs done

-- so many numbers from one on
abbrev pub counted : ℕ → ℕ → List ℕ
counted n zero = []
counted n (suc count) = n ∷ counted (n + 1) count

-- each version's rows stand in key order, no key twice
abbrev pub AllRise : Shape → List Version → Type 0
AllRise schema [] = Unit {0}
AllRise schema (v ∷ vs) = Rises (key_cmp schema) v.rows × AllRise schema vs
