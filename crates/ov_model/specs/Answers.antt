-- What a query means.
--     answer query schema related pairs      the rows of the answer, over pairs of a version and one of its rows
--     pairs related cvd source      those pairs
--     answer_text kinds rows      as lines of CSV
-- Truth has three values: Some true, Some false, and None for unknown.
use Rattle.std.specs.Prelude.{ℕ, ℤ, pos, ◌+ℤ◌, Bool, true, false, not, ◌||◌, ◌==◌, if◌then◌else◌, List, [], ◌∷◌, length, map, filter, take, slice_index_or, Option, Some, None}
use Rattle.std.specs.List.{flat_map, list_any, position_or_len}
use Rattle.std.specs.Ordering.{nat_cmp, int_cmp, bool_cmp, ordering_reverse, ordering_then, is_eq, is_lt}
use Rattle.std.specs.Cmp.Lexicographic.{slice_cmp}
use Rattle.std.specs.Fmt.{signed_decimal}
use Rattle.csv.specs.Writing.{default_writer, row_text}
use Rattle.ov_value.specs.declared.column.Kind.{Kind}
use Rattle.std.specs.Str.{bytes_eq}
use Rattle.std.specs.declared.cmp.Ordering.{Ordering}
use Rattle.std.specs.declared.cmp.Ordering.TheVariants.{Less, Equal, Greater}
use Rattle.ov_value.specs.declared.value.Value.{Value}
use Rattle.ov_value.specs.declared.value.Value.TheVariants as value
use Rattle.ov_value.specs.Shapes.{Shape}
use Rattle.ov_model.specs.Book.{Row, Cvd}
use Rattle.ov_model.specs.Csv.{field_of}
use Rattle.ov_model.specs.Kinds.{is_grouped}
use Rattle.ov_model.specs.Records.{rows_at, counted}
use Rattle.ov_model.specs.declared.answer.Cell.{Cell}
use Rattle.ov_model.specs.declared.answer.Cell.TheVariants as cell
use Rattle.ov_model.specs.declared.query.Query.{Query}
use Rattle.ov_model.specs.declared.query.Items.{Items}
use Rattle.ov_model.specs.declared.query.Items.TheVariants.{Everything, Terms}
use Rattle.ov_model.specs.declared.query.Src.{Src}
use Rattle.ov_model.specs.declared.query.Src.TheVariants as source
use Rattle.ov_model.specs.declared.query.LineageKind.{LineageKind}
use Rattle.ov_model.specs.declared.query.Col.{Col}
use Rattle.ov_model.specs.declared.query.Col.TheVariants as col
use Rattle.ov_model.specs.declared.query.Term.{Term}
use Rattle.ov_model.specs.declared.query.Term.TheVariants as term
use Rattle.ov_model.specs.declared.query.Key.{Key}
use Rattle.ov_model.specs.declared.query.Operand.{Operand}
use Rattle.ov_model.specs.declared.query.Operand.TheVariants as operand
use Rattle.ov_model.specs.declared.query.Sign.{Sign}
use Rattle.ov_model.specs.declared.query.Sign.TheVariants as sign
use Rattle.ov_model.specs.declared.query.Cond.{Cond}
use Rattle.ov_model.specs.declared.query.Cond.TheOpen.{Cond-F}
use Rattle.ov_model.specs.declared.query.Cond.TheFolds.{fold-Cond}

-- a version's number and one of its rows
pub record Pair : Type 0 where
  pub vid : ℕ
  pub row : Row

-- the relatives of a version, ascending
abbrev pub Related : Type 0
Related = LineageKind → ℕ → List ℕ

abbrev pub pairs_of : Cvd → ℕ → List Pair
pairs_of cvd vid = map (λ row. record { vid = vid; row = row }) (rows_at cvd.versions vid)

-- version by version, as they are listed, or ascending; rows in key order
abbrev pub source_vids : Related → Cvd → Src → List ℕ
source_vids related cvd (source.Listed vids name) = vids
source_vids related cvd (source.Whole name) = counted 1 (length cvd.versions)
source_vids related cvd (source.Lineage kind vid name) = related kind vid

abbrev pub pairs : Related → Cvd → Src → List Pair
pairs related cvd src = flat_map (pairs_of cvd) (source_vids related cvd src)

-- the value of a column, in a pair
abbrev pub column_at : Shape → List ℕ → ℕ
column_at schema name = position_or_len (λ c. bytes_eq c.name name) schema.columns

abbrev pub value_in : Shape → Pair → Col → Value
value_in schema pair col.Vid = value.Int (pos pair.vid)
value_in schema pair (col.Name name) = slice_index_or pair.row (column_at schema name) value.Null
value_in schema pair (col.Left name) = value.Null
value_in schema pair (col.Right name) = value.Null

-- How two cells compare; None where one of them is NULL or nothing. Ints and sums compare by number, texts by bytes, false is
-- below true.
abbrev pub value_order : Value → Value → Option Ordering
value_order (value.Int a) (value.Int b) = Some (int_cmp a b)
value_order (value.Text a) (value.Text b) = Some (slice_cmp nat_cmp a b)
value_order (value.Flag a) (value.Flag b) = Some (bool_cmp a b)
value_order _ _ = None

abbrev pub number_order : Value → ℤ → Option Ordering
number_order (value.Int a) n = Some (int_cmp a n)
number_order _ n = None

abbrev pub turned : Option Ordering → Option Ordering
turned None = None
turned (Some o) = Some (ordering_reverse o)

abbrev pub cell_order : Cell → Cell → Option Ordering
cell_order (cell.Value a) (cell.Value b) = value_order a b
cell_order (cell.Value a) (cell.Sum n) = number_order a n
cell_order (cell.Sum n) (cell.Value b) = turned (number_order b n)
cell_order (cell.Sum n) (cell.Sum m) = Some (int_cmp n m)
cell_order _ _ = None

abbrev pub is_null_cell : Cell → Bool
is_null_cell (cell.Value value.Null) = true
is_null_cell cell.Nothing = true
is_null_cell _ = false

-- whether a comparison's sign takes this order
abbrev pub takes : Sign → Ordering → Bool
takes sign.Eq o = is_eq o
takes sign.Ne o = not (is_eq o)
takes sign.Lt o = is_lt o
takes sign.Le o = is_lt o || is_eq o
takes sign.Gt o = not (is_lt o || is_eq o)
takes sign.Ge o = not (is_lt o)

abbrev pub compared : Sign → Option Ordering → Option Bool
compared s None = None
compared s (Some o) = Some (takes s o)

abbrev pub turned_if : Bool → Bool → Bool
turned_if negated b = if negated then not b else b

abbrev pub truth_not : Option Bool → Option Bool
truth_not None = None
truth_not (Some b) = Some (not b)

-- false where one is false, else unknown where one is unknown, else true
abbrev pub truth_and : Option Bool → Option Bool → Option Bool
truth_and (Some false) b = Some false
truth_and (Some true) b = b
truth_and None (Some false) = Some false
truth_and None (Some true) = None
truth_and None None = None

abbrev pub truth_every : List (Option Bool) → Option Bool
truth_every [] = Some true
truth_every (t ∷ ts) = truth_and t (truth_every ts)

-- true where one is true, else unknown where one is unknown, else false
abbrev pub truth_or : Option Bool → Option Bool → Option Bool
truth_or (Some true) b = Some true
truth_or (Some false) b = b
truth_or None (Some true) = Some true
truth_or None (Some false) = None
truth_or None None = None

abbrev pub truth_any : List (Option Bool) → Option Bool
truth_any [] = Some false
truth_any (t ∷ ts) = truth_or t (truth_any ts)

-- where a condition is read: what each term is there, and the relatives of versions
pub record Here : Type 0 where
  pub term : Term → Cell
  pub related : Related

abbrev pub operand_in : Here → Operand → Cell
operand_in here (operand.Term t) = here.term t
operand_in here (operand.Literal v) = cell.Value v

-- whether the version here is among these
abbrev pub is_version : Cell → ℕ → Bool
is_version (cell.Value (value.Int (pos n))) vid = n == vid
is_version _ vid = false

abbrev pub version_among : Here → List ℕ → Bool
version_among here vids = list_any (is_version (here.term (term.Plain col.Vid))) vids

abbrev pub truth_step : Here → Cond-F (Option Bool) → Option Bool
truth_step here (Cond-F.Compare left by right) = compared by (cell_order (operand_in here left) (operand_in here right))
truth_step here (Cond-F.IsNull x negated) = Some (turned_if negated (is_null_cell (operand_in here x)))
truth_step here (Cond-F.InLineage kind vid negated) = Some (turned_if negated (version_among here (here.related kind vid)))
truth_step here (Cond-F.InList vids negated) = Some (turned_if negated (version_among here vids))
truth_step here (Cond-F.Not t) = truth_not t
truth_step here (Cond-F.Every ts) = truth_every ts
truth_step here (Cond-F.Any ts) = truth_any ts

abbrev pub truth : Here → Cond → Option Bool
truth here = fold-Cond (Option Bool) (truth_step here)

abbrev pub is_true : Option Bool → Bool
is_true (Some true) = true
is_true _ = false

abbrev pub holds : Here → Option Cond → Bool
holds here None = true
holds here (Some c) = is_true (truth here c)

-- The aggregates, over the values of a column that aren't NULL.
abbrev pub is_present : Value → Bool
is_present value.Null = false
is_present _ = true

abbrev pub present : Shape → List Pair → Col → List Value
present schema group c = filter is_present (map (λ pair. value_in schema pair c) group)

abbrev pub plus : ℤ → Value → ℤ
plus n (value.Int m) = n +ℤ m
plus n _ = n

abbrev pub sum_from : ℤ → List Value → ℤ
sum_from n [] = n
sum_from n (v ∷ vs) = sum_from (plus n v) vs

abbrev pub sum_cell : List Value → Cell
sum_cell [] = cell.Nothing
sum_cell (v ∷ vs) = cell.Sum (sum_from (pos 0) (v ∷ vs))

-- of two values of one kind the one that comes first in this order
abbrev pub is_below : Option Ordering → Bool
is_below (Some Less) = true
is_below _ = false

abbrev pub least_from : Value → List Value → Value
least_from v [] = v
least_from v (w ∷ ws) = least_from (if is_below (value_order w v) then w else v) ws

abbrev pub greatest_from : Value → List Value → Value
greatest_from v [] = v
greatest_from v (w ∷ ws) = greatest_from (if is_below (value_order v w) then w else v) ws

abbrev pub first_by : (Value → List Value → Value) → List Value → Cell
first_by pick [] = cell.Nothing
first_by pick (v ∷ vs) = cell.Value (pick v vs)

-- the value of a group's column, which is the same in each of its pairs
abbrev pub group_value : Shape → List Pair → Col → Cell
group_value schema [] c = cell.Nothing
group_value schema (pair ∷ rest) c = cell.Value (value_in schema pair c)

abbrev pub term_of_group : Shape → List Pair → Term → Cell
term_of_group schema group (term.Plain c) = group_value schema group c
term_of_group schema group term.CountAll = cell.Sum (pos (length group))
term_of_group schema group (term.Count c) = cell.Sum (pos (length (present schema group c)))
term_of_group schema group (term.Sum c) = sum_cell (present schema group c)
term_of_group schema group (term.Min c) = first_by least_from (present schema group c)
term_of_group schema group (term.Max c) = first_by greatest_from (present schema group c)

-- a pair is read as the group of itself alone
abbrev pub here_for : Shape → Related → List Pair → Here
here_for schema related group = record { term = term_of_group schema group; related = related }

-- Values in an order of all: NULL and nothing are one value below all others.
abbrev pub when_known : Option Ordering → Bool → Bool → Ordering
when_known (Some o) a b = o
when_known None true true = Equal
when_known None true false = Less
when_known None false true = Greater
when_known None false false = Equal

abbrev pub cells_order : Cell → Cell → Ordering
cells_order a b = when_known (cell_order a b) (is_null_cell a) (is_null_cell b)

abbrev pub list_order : List Cell → List Cell → Ordering
list_order [] [] = Equal
list_order [] (b ∷ bs) = Less
list_order (a ∷ as_) [] = Greater
list_order (a ∷ as_) (b ∷ bs) = ordering_then (cells_order a b) (list_order as_ bs)

-- put behind all that aren't above it: a stable sort
abbrev pub is_above : Ordering → Bool
is_above Greater = true
is_above _ = false

abbrev pub placed_by : {X : Type 0} → (X → X → Ordering) → X → List X → List X
placed_by order x [] = x ∷ []
placed_by order x (y ∷ ys) = if is_above (order x y) then y ∷ placed_by order x ys else x ∷ y ∷ ys

abbrev pub sorted_by : {X : Type 0} → (X → X → Ordering) → List X → List X
sorted_by order [] = []
sorted_by order (x ∷ xs) = placed_by order x (sorted_by order xs)

-- by its keys from the left; DESC turns a key's order round and leaves ties
abbrev pub key_order : Key → Cell → Cell → Ordering
key_order key a b = if key.down then ordering_reverse (cells_order a b) else cells_order a b

abbrev pub order_by : List Key → Here → Here → Ordering
order_by [] a b = Equal
order_by (key ∷ keys) a b = ordering_then (key_order key (a.term key.term) (b.term key.term)) (order_by keys a b)

-- the values of the group columns that occur, each once, ascending, and the pairs that have them
abbrev pub group_key : Shape → List Col → Pair → List Cell
group_key schema groups pair = map (λ c. cell.Value (value_in schema pair c)) groups

abbrev pub is_same_key : List Cell → List Cell → Bool
is_same_key a b = is_eq (list_order a b)

abbrev pub distinct_keys : List (List Cell) → List (List Cell)
distinct_keys [] = []
distinct_keys (k ∷ ks) = k ∷ filter (λ other. not (is_same_key k other)) (distinct_keys ks)

abbrev pub groups_of : Shape → List Col → List Pair → List (List Pair)
groups_of schema groups kept =
    map (λ key. filter (λ pair. is_same_key key (group_key schema groups pair)) kept)
    (sorted_by list_order (distinct_keys (map (group_key schema groups) kept)))

-- without GROUP BY one group, which may be empty
abbrev pub grouped_pairs : Shape → List Col → List Pair → List (List Pair)
grouped_pairs schema [] kept = kept ∷ []
grouped_pairs schema (c ∷ cs) kept = groups_of schema (c ∷ cs) kept

abbrev pub kept_pairs : Query → Shape → Related → List Pair → List Pair
kept_pairs query schema related all = filter (λ pair. holds (here_for schema related (pair ∷ [])) query.filter) all

-- each answer row's place: a group that HAVING keeps, or a pair
abbrev pub places : Query → Shape → Related → List Pair → List (List Pair)
places query schema related kept =
    if is_grouped query
    then filter (λ group. holds (here_for schema related group) query.having) (grouped_pairs schema query.groups kept)
    else map (λ pair. pair ∷ []) kept

abbrev pub row_cells : Row → List Cell
row_cells row = map cell.Value row

abbrev pub row_of : List Pair → List Cell
row_of [] = []
row_of (pair ∷ rest) = row_cells pair.row

abbrev pub shown : Shape → Items → List Pair → List Cell
shown schema Everything group = row_of group
shown schema (Terms terms) group = map (term_of_group schema group) terms

abbrev pub limited : {X : Type 0} → Option ℕ → List X → List X
limited None rows = rows
limited (Some n) rows = take n rows

-- by the keys of ORDER BY, and then the first ones by LIMIT
abbrev pub answer : Query → Shape → Related → List Pair → List (List Cell)
answer query schema related all =
    map (shown schema query.items)
    (limited query.limit
    (sorted_by (λ a b. order_by query.order (here_for schema related a) (here_for schema related b))
    (places query schema related (kept_pairs query schema related all))))

-- An answer as lines of CSV: a value as in a file, a sum in decimal, nothing as an empty field.
abbrev pub cell_field : Kind → Cell → List ℕ
cell_field kind (cell.Value v) = field_of kind v
cell_field kind (cell.Sum n) = signed_decimal n
cell_field kind cell.Nothing = []

abbrev pub cell_fields : List Kind → List Cell → List (List ℕ)
cell_fields (kind ∷ kinds) (c ∷ cells) = cell_field kind c ∷ cell_fields kinds cells
cell_fields _ _ = []

abbrev pub answer_text : List Kind → List (List Cell) → List ℕ
answer_text kinds rows = flat_map (λ cells. row_text default_writer (cell_fields kinds cells)) rows
