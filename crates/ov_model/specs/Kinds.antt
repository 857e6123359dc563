-- The kinds of a query's terms over a schema, and the refusals of a query.
--     kinds query schema      the kind of each column of the answer, or the first refusal
use Rattle.std.specs.Prelude.{ℕ, ◌+◌, Bool, true, false, not, ◌||◌, ◌&&◌, ◌==◌, if◌then◌else◌, List, [], ◌∷◌, length, map, Option, Some, None, Result, Ok, Err, codes}
use Rattle.std.specs.List.{list_any}
use Rattle.std.specs.Str.{bytes_eq}
use Rattle.ov_value.specs.declared.column.Column.{Column}
use Rattle.ov_value.specs.declared.column.Kind.{Kind}
use Rattle.ov_value.specs.declared.column.Kind.TheVariants as kind
use Rattle.ov_value.specs.declared.value.Value.{Value}
use Rattle.ov_value.specs.declared.value.Value.TheVariants as value
use Rattle.ov_value.specs.Shapes.{Shape}
use Rattle.ov_model.specs.declared.query.Query.{Query}
use Rattle.ov_model.specs.declared.query.Items.{Items}
use Rattle.ov_model.specs.declared.query.Items.TheVariants.{Everything, Terms}
use Rattle.ov_model.specs.declared.query.Col.{Col}
use Rattle.ov_model.specs.declared.query.Col.TheVariants as col
use Rattle.ov_model.specs.declared.query.Term.{Term}
use Rattle.ov_model.specs.declared.query.Term.TheVariants as term
use Rattle.ov_model.specs.declared.query.Operand.{Operand}
use Rattle.ov_model.specs.declared.query.Operand.TheVariants as operand
use Rattle.ov_model.specs.declared.query.Cond.{Cond}
use Rattle.ov_model.specs.declared.query.Cond.TheOpen.{Cond-F}
use Rattle.ov_model.specs.declared.query.Cond.TheFolds.{fold-Cond}
use Rattle.ov_model.specs.declared.refusal.Refusal.{Refusal}
use Rattle.ov_model.specs.declared.refusal.Refusal.TheVariants as no

-- where a term stands: the schema, whether plain columns have to be grouped there, and the columns that are
pub record Place : Type 0 where
  pub schema : Shape
  pub grouped : Bool
  pub groups : List Col

abbrev pub is_same_col : Col → Col → Bool
is_same_col col.Vid col.Vid = true
is_same_col (col.Name a) (col.Name b) = bytes_eq a b
is_same_col (col.Left a) (col.Left b) = bytes_eq a b
is_same_col (col.Right a) (col.Right b) = bytes_eq a b
is_same_col _ _ = false

abbrev pub name_of : Col → List ℕ
name_of col.Vid = codes "vid"
name_of (col.Name name) = name
name_of (col.Left name) = name
name_of (col.Right name) = name

-- the kind of the column of this name
abbrev pub kind_named : List Column → List ℕ → Option Kind
kind_named [] name = None
kind_named (c ∷ cs) name = if bytes_eq c.name name then Some c.kind else kind_named cs name

abbrev pub or_unknown : List ℕ → Option Kind → Result Kind Refusal
or_unknown name (Some of) = Ok of
or_unknown name None = Err (no.UnknownColumn name)

-- a version's number is an int; a column of a join is none of a query
abbrev pub col_kind : Shape → Col → Result Kind Refusal
col_kind schema col.Vid = Ok kind.Int
col_kind schema (col.Name name) = or_unknown name (kind_named schema.columns name)
col_kind schema (col.Left name) = Err (no.UnknownColumn name)
col_kind schema (col.Right name) = Err (no.UnknownColumn name)

-- what comes of a result
abbrev pub and_then : {A B : Type 0} → Result A Refusal → (A → Result B Refusal) → Result B Refusal
and_then (Ok x) next = next x
and_then (Err refusal) next = Err refusal

-- a plain column that isn't grouped, where it has to be
abbrev pub grouped_or : Place → Col → Kind → Result Kind Refusal
grouped_or place c of = if place.grouped && not (list_any (is_same_col c) place.groups) then Err (no.NotGrouped (name_of c)) else Ok of

-- a sum is of ints
abbrev pub int_or : Col → Kind → Result Kind Refusal
int_or c kind.Int = Ok kind.Int
int_or c _ = Err (no.NeedsInt (name_of c))

abbrev pub always_int : Kind → Result Kind Refusal
always_int of = Ok kind.Int

-- at one term: its column, and then that a sum is of ints, or that a plain column is grouped
abbrev pub term_kind : Place → Term → Result Kind Refusal
term_kind place (term.Plain c) = and_then (col_kind place.schema c) (grouped_or place c)
term_kind place term.CountAll = Ok kind.Int
term_kind place (term.Count c) = and_then (col_kind place.schema c) always_int
term_kind place (term.Sum c) = and_then (col_kind place.schema c) (int_or c)
term_kind place (term.Min c) = col_kind place.schema c
term_kind place (term.Max c) = col_kind place.schema c

-- a literal is never NULL
abbrev pub literal_kind : Value → Kind
literal_kind (value.Int n) = kind.Int
literal_kind (value.Text text) = kind.Text
literal_kind (value.Flag flag) = kind.Flag
literal_kind value.Null = kind.Int

abbrev pub operand_kind : Place → Operand → Result Kind Refusal
operand_kind place (operand.Term t) = term_kind place t
operand_kind place (operand.Literal v) = Ok (literal_kind v)

abbrev pub is_same_kind : Kind → Kind → Bool
is_same_kind kind.Int kind.Int = true
is_same_kind kind.Text kind.Text = true
is_same_kind kind.Flag kind.Flag = true
is_same_kind _ _ = false

-- comparison `nth`, counted from 1 over the whole query, is of two values of one kind; gives the number of the next one
abbrev pub same_or : ℕ → Kind → Kind → Result ℕ Refusal
same_or nth left right = if is_same_kind left right then Ok (nth + 1) else Err (no.TypeMismatch nth left right)

abbrev pub compared : Place → ℕ → Operand → Operand → Result ℕ Refusal
compared place nth left right = and_then (operand_kind place left) (λ l. and_then (operand_kind place right) (λ r. same_or nth l r))

-- what isn't a comparison leaves the number
abbrev pub tested : ℕ → Result Kind Refusal → Result ℕ Refusal
tested nth (Ok of) = Ok nth
tested nth (Err refusal) = Err refusal

-- What a condition does to the number of the comparison that comes next, or its first refusal; its members are read from the
-- left.
abbrev pub Counts : Type 0
Counts = ℕ → Result ℕ Refusal

abbrev pub count_all : List Counts → Counts
count_all [] nth = Ok nth
count_all (c ∷ cs) nth = and_then (c nth) (count_all cs)

abbrev pub cond_step : Place → Cond-F Counts → Counts
cond_step place (Cond-F.Compare left sign right) nth = compared place nth left right
cond_step place (Cond-F.IsNull x negated) nth = tested nth (operand_kind place x)
cond_step place (Cond-F.InLineage lineage vid negated) nth = tested nth (grouped_or place col.Vid kind.Int)
cond_step place (Cond-F.InList vids negated) nth = tested nth (grouped_or place col.Vid kind.Int)
cond_step place (Cond-F.Not c) nth = c nth
cond_step place (Cond-F.Every cs) nth = count_all cs nth
cond_step place (Cond-F.Any cs) nth = count_all cs nth

abbrev pub counted : Place → Cond → Counts
counted place = fold-Cond Counts (cond_step place)

abbrev pub guard_counts : Place → Option Cond → Counts
guard_counts place None nth = Ok nth
guard_counts place (Some c) nth = counted place c nth

-- COUNT, SUM, MIN and MAX
abbrev pub is_aggregate : Term → Bool
is_aggregate (term.Plain c) = false
is_aggregate _ = true

abbrev pub has_aggregate : Items → Bool
has_aggregate Everything = false
has_aggregate (Terms terms) = list_any is_aggregate terms

-- a query is grouped where it has GROUP BY, or an aggregate among its items or in its order
abbrev pub is_grouped : Query → Bool
is_grouped query = not (length query.groups == 0) || (has_aggregate query.items || list_any (λ key. is_aggregate key.term) query.order)

-- the kinds of all, or the first refusal
abbrev pub onto_kinds : Kind → Result (List Kind) Refusal → Result (List Kind) Refusal
onto_kinds of (Ok kinds) = Ok (of ∷ kinds)
onto_kinds of (Err refusal) = Err refusal

abbrev pub terms_kinds : Place → List Term → Result (List Kind) Refusal
terms_kinds place [] = Ok []
terms_kinds place (t ∷ ts) = and_then (term_kind place t) (λ of. onto_kinds of (terms_kinds place ts))

abbrev pub items_kinds : Place → Items → Result (List Kind) Refusal
items_kinds place Everything = if place.grouped then Err (no.NotGrouped (codes "*")) else Ok (map (λ c. c.kind) place.schema.columns)
items_kinds place (Terms terms) = terms_kinds place terms

abbrev pub cols_kinds : Shape → List Col → Result (List Kind) Refusal
cols_kinds schema [] = Ok []
cols_kinds schema (c ∷ cs) = and_then (col_kind schema c) (λ of. onto_kinds of (cols_kinds schema cs))

abbrev pub place_of : Query → Shape → Place
place_of query schema = record { schema = schema; grouped = is_grouped query; groups = query.groups }

-- in WHERE no column has to be grouped
abbrev pub plain_place : Shape → Place
plain_place schema = record { schema = schema; grouped = false; groups = [] }

-- items, WHERE, GROUP BY, HAVING and ORDER BY, in this order
abbrev pub kinds : Query → Shape → Result (List Kind) Refusal
kinds query schema =
    and_then (items_kinds (place_of query schema) query.items) (λ of.
    and_then (guard_counts (plain_place schema) query.filter 1) (λ nth.
    and_then (cols_kinds schema query.groups) (λ groups.
    and_then (guard_counts (place_of query schema) query.having nth) (λ last.
    and_then (terms_kinds (place_of query schema) (map (λ key. key.term) query.order)) (λ order. Ok of)))))
