-- What a join means. Its pairs of rows are rows of one wider schema, whose columns are named `LEFT.x` and `RIGHT.x`; over them
-- its items, WHERE, ORDER BY and LIMIT are those of a query.
--     join_kinds join left right      the kind of each column of the answer, or the first refusal
--     matches join left right ls rs      the pairs of rows that every comparison of ON finds equal
--     join_deed w s join      the first refusal in its order, or else the answer
use Rattle.std.specs.Prelude.{ℕ, Bool, false, ◌||◌, ◌==◌, nat_lt, if◌then◌else◌, List, [], ◌∷◌, ◌++◌, length, map, filter, Option, Some, None, Result, Ok, Err, codes}
use Rattle.std.specs.List.{flat_map, list_all}
use Rattle.std.specs.Ordering.{is_eq}
use Rattle.std.specs.declared.cmp.Ordering.{Ordering}
use Rattle.ov_value.specs.declared.column.Column.{Column}
use Rattle.ov_value.specs.declared.column.Kind.{Kind}
use Rattle.ov_value.specs.Shapes.{Shape}
use Rattle.ov_model.specs.Act.{Session, Deed, tells, refuses}
use Rattle.ov_model.specs.Answers.{Pair, Related, answer, answer_text, cell_order, value_in}
use Rattle.ov_model.specs.Book.{Row, Cvd}
use Rattle.ov_model.specs.Kinds as kind
use Rattle.ov_model.specs.Kinds.{Place, and_then, guard_counts, items_kinds, plain_place, terms_kinds}
use Rattle.ov_model.specs.Records.{rows_at}
use Rattle.ov_model.specs.World.{World, cvd_in, set_named}
use Rattle.ov_model.specs.declared.answer.Cell.{Cell}
use Rattle.ov_model.specs.declared.answer.Cell.TheVariants as cell
use Rattle.ov_model.specs.declared.query.Query.{Query}
use Rattle.ov_model.specs.declared.query.JoinQuery.{JoinQuery}
use Rattle.ov_model.specs.declared.query.Side.{Side}
use Rattle.ov_model.specs.declared.query.Items.{Items}
use Rattle.ov_model.specs.declared.query.Items.TheVariants.{Everything, Terms}
use Rattle.ov_model.specs.declared.query.Src.TheVariants.{Whole}
use Rattle.ov_model.specs.declared.query.Col.{Col}
use Rattle.ov_model.specs.declared.query.Col.TheVariants as col
use Rattle.ov_model.specs.declared.query.Term.{Term}
use Rattle.ov_model.specs.declared.query.Term.TheVariants as term
use Rattle.ov_model.specs.declared.query.Key.{Key}
use Rattle.ov_model.specs.declared.query.Operand.{Operand}
use Rattle.ov_model.specs.declared.query.Operand.TheVariants as operand
use Rattle.ov_model.specs.declared.query.Cond.{Cond}
use Rattle.ov_model.specs.declared.query.Cond.TheVariants as cond
use Rattle.ov_model.specs.declared.query.Cond.TheOpen.{Cond-F}
use Rattle.ov_model.specs.declared.query.Cond.TheFolds.{fold-Cond}
use Rattle.ov_model.specs.declared.refusal.Refusal.{Refusal}
use Rattle.ov_model.specs.declared.refusal.Refusal.TheVariants as no
use Rattle.ov_model.specs.declared.reply.Reply.TheVariants as says

-- ---- both sides as one

abbrev pub left_name : List ℕ → List ℕ
left_name name = codes "LEFT." ++ name

abbrev pub right_name : List ℕ → List ℕ
right_name name = codes "RIGHT." ++ name

abbrev pub renamed : (List ℕ → List ℕ) → Column → Column
renamed as_ c = record { name = as_ c.name; kind = c.kind }

-- all left and then all right columns
abbrev pub side_by_side : Shape → Shape → Shape
side_by_side left right = record { columns = map (renamed left_name) left.columns ++ map (renamed right_name) right.columns; key = [] }

abbrev pub wide_col : Col → Col
wide_col col.Vid = col.Vid
wide_col (col.Name name) = col.Name name
wide_col (col.Left name) = col.Name (left_name name)
wide_col (col.Right name) = col.Name (right_name name)

abbrev pub wide_term : Term → Term
wide_term (term.Plain c) = term.Plain (wide_col c)
wide_term term.CountAll = term.CountAll
wide_term (term.Count c) = term.Count (wide_col c)
wide_term (term.Sum c) = term.Sum (wide_col c)
wide_term (term.Min c) = term.Min (wide_col c)
wide_term (term.Max c) = term.Max (wide_col c)

abbrev pub wide_operand : Operand → Operand
wide_operand (operand.Term t) = operand.Term (wide_term t)
wide_operand (operand.Literal v) = operand.Literal v

abbrev pub wide_step : Cond-F Cond → Cond
wide_step (Cond-F.Compare left by right) = cond.Compare (wide_operand left) by (wide_operand right)
wide_step (Cond-F.IsNull x negated) = cond.IsNull (wide_operand x) negated
wide_step (Cond-F.InLineage kind vid negated) = cond.InLineage kind vid negated
wide_step (Cond-F.InList vids negated) = cond.InList vids negated
wide_step (Cond-F.Not c) = cond.Not c
wide_step (Cond-F.Every cs) = cond.Every cs
wide_step (Cond-F.Any cs) = cond.Any cs

abbrev pub wide_cond : Cond → Cond
wide_cond = fold-Cond Cond wide_step

abbrev pub wide_guard : Option Cond → Option Cond
wide_guard None = None
wide_guard (Some c) = Some (wide_cond c)

abbrev pub wide_items : Items → Items
wide_items Everything = Everything
wide_items (Terms terms) = Terms (map wide_term terms)

abbrev pub wide_key : Key → Key
wide_key key = record { term = wide_term key.term; down = key.down }

-- what a join asks of its pairs
abbrev pub as_query : JoinQuery → Query
as_query join = record {
  items = wide_items join.items;
  source = Whole join.left.cvd;
  filter = wide_guard join.filter;
  groups = [];
  having = None;
  order = map wide_key join.order;
  limit = join.limit;
}

-- ---- what it is refused for

-- Comparisons of ON are counted first. They are read behind the items.
abbrev pub on_counts : Place → ℕ → List (List ℕ × List ℕ) → Result ℕ Refusal
on_counts place nth [] = Ok nth
on_counts place nth (on ∷ ons) =
    and_then
    (kind.compared place nth (operand.Term (term.Plain (col.Name (left_name on.0)))) (operand.Term (term.Plain (col.Name (right_name on.1)))))
    (λ next. on_counts place next ons)

-- items, ON, WHERE and ORDER BY, in this order
abbrev pub kinds_in : Place → JoinQuery → Query → Result (List Kind) Refusal
kinds_in place join query =
    and_then (items_kinds place query.items) (λ kinds.
    and_then (on_counts place 1 join.on) (λ nth.
    and_then (guard_counts place query.filter nth) (λ last.
    and_then (terms_kinds place (map (λ key. key.term) query.order)) (λ order. Ok kinds))))

abbrev pub join_kinds : JoinQuery → Shape → Shape → Result (List Kind) Refusal
join_kinds join left right = kinds_in (plain_place (side_by_side left right)) join (as_query join)

-- ---- what it answers

-- a pair of rows as one row, which is of no version
abbrev pub beside : Row → Row → Pair
beside l r = record { vid = 0; row = l ++ r }

-- NULL is equal to nothing
abbrev pub is_match : Option Ordering → Bool
is_match None = false
is_match (Some order) = is_eq order

abbrev pub is_on : Shape → Pair → List ℕ × List ℕ → Bool
is_on schema pair on =
    is_match (cell_order (cell.Value (value_in schema pair (col.Name (left_name on.0)))) (cell.Value (value_in schema pair (col.Name (right_name on.1)))))

-- each left row with each right row, in key order of the left and then of the right version
abbrev pub all_pairs : List Row → List Row → List Pair
all_pairs ls rs = flat_map (λ l. map (beside l) rs) ls

abbrev pub matches : JoinQuery → Shape → Shape → List Row → List Row → List Pair
matches join left right ls rs =
    filter (λ pair. list_all (is_on (side_by_side left right) pair) join.on) (all_pairs ls rs)

-- no version has relatives here
abbrev pub unrelated : Related
unrelated kind vid = []

abbrev pub join_answer : JoinQuery → Shape → Shape → List Pair → List (List Cell)
join_answer join left right pairs = answer (as_query join) (side_by_side left right) unrelated pairs

-- the rows of both sides' versions
abbrev pub joined_rows : JoinQuery → Cvd → Cvd → List Pair
joined_rows join left right =
    matches join left.schema right.schema (rows_at left.versions join.left.vid) (rows_at right.versions join.right.vid)

abbrev pub told : Session → List Kind → List (List Cell) → Deed
told s kinds rows = tells s (says.Answer (answer_text kinds rows) (length rows))

-- more than 1,000,000 pairs that match are refused before WHERE is read
abbrev pub join_by : Session → JoinQuery → Cvd → Cvd → Result (List Kind) Refusal → Deed
join_by s join left right (Err refusal) = refuses s refusal
join_by s join left right (Ok kinds) =
    if nat_lt 1000000 (length (joined_rows join left right)) then refuses s no.TooManyJoined
    else told s kinds (join_answer join left.schema right.schema (joined_rows join left right))

-- a side's dataset, where it is there and has the version
abbrev pub side_in : Side → Option Cvd → Result Cvd Refusal
side_in side None = Err (no.NoCvd side.cvd)
side_in side (Some cvd) = if side.vid == 0 || nat_lt (length cvd.versions) side.vid then Err (no.NoVersion side.vid) else Ok cvd

abbrev pub side_of : World → Side → Result Cvd Refusal
side_of w side = side_in side (cvd_in (set_named w side.cvd))

-- the left side's refusals, and then the right one's
abbrev pub join_over : Session → JoinQuery → Result Cvd Refusal → Result Cvd Refusal → Deed
join_over s join (Err refusal) right = refuses s refusal
join_over s join (Ok left) (Err refusal) = refuses s refusal
join_over s join (Ok left) (Ok right) = join_by s join left right (join_kinds join left.schema right.schema)

abbrev pub join_deed : World → Session → JoinQuery → Deed
join_deed w s join = join_over s join (side_of w join.left) (side_of w join.right)
