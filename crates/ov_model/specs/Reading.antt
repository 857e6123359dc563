-- Reading symbols from left to right: a part of a query and the symbols behind it, or nothing. The grammar itself is a relation
-- of its own.
--     items_at, source_at, guard_at, order_at ..      such a part, at the front of symbols
--     query_of symbols      the query that all of the symbols spell, or nothing
use Rattle.std.specs.Prelude.{ℕ, zero, suc, Bool, true, false, ◌||◌, if◌then◌else◌, ℤ, pos, negsuc, List, [], ◌∷◌, ◌++◌, length, Option, Some, None}
use denote.Enum.Bare.{sameb}
use Rattle.ov_value.specs.declared.value.Value.{Value}
use Rattle.ov_value.specs.declared.value.Value.TheVariants as value
use Rattle.ov_model.specs.declared.query.Query.{Query}
use Rattle.ov_model.specs.declared.query.Items.{Items}
use Rattle.ov_model.specs.declared.query.Items.TheVariants as items
use Rattle.ov_model.specs.declared.query.Src.{Src}
use Rattle.ov_model.specs.declared.query.Src.TheVariants as source
use Rattle.ov_model.specs.declared.query.LineageKind.{LineageKind}
use Rattle.ov_model.specs.declared.query.LineageKind.TheVariants as lineage
use Rattle.ov_model.specs.declared.query.Col.{Col}
use Rattle.ov_model.specs.declared.query.Col.TheVariants as col
use Rattle.ov_model.specs.declared.query.Term.{Term}
use Rattle.ov_model.specs.declared.query.Term.TheVariants as term
use Rattle.ov_model.specs.declared.query.Key.{Key}
use Rattle.ov_model.specs.declared.query.Operand.{Operand}
use Rattle.ov_model.specs.declared.query.Operand.TheVariants as operand
use Rattle.ov_model.specs.declared.query.Sign.{Sign}
use Rattle.ov_model.specs.declared.query.Sign.TheVariants as sign
use Rattle.ov_model.specs.declared.query.Cond.{Cond}
use Rattle.ov_model.specs.declared.query.Cond.TheVariants as cond
use Rattle.ov_model.specs.declared.query.Fixed.{Fixed}
use Rattle.ov_model.specs.contracts.query.Fixed.{the_type}
use Rattle.ov_model.specs.declared.query.Fixed.TheVariants as f
use Rattle.ov_model.specs.declared.query.Symbol.{Symbol}
use Rattle.ov_model.specs.declared.query.Symbol.TheVariants.{Fixed as fixed, Name, Number, Text}
use Rattle.ov_model.specs.Grammar.{every, any}

-- what is read at the front of symbols
abbrev pub Reading : Type 0 → Type 0
Reading A = List Symbol → Option (A × List Symbol)

infixl 10 ◌>>=◌
abbrev pub ◌>>=◌ : {A B : Type 0} → Option A → (A → Option B) → Option B
(Some x) >>= g = g x
None >>= g = None

-- where something was found, what is made of it, and else something other
abbrev pub or_else : {A B : Type 0} → Option A → (A → B) → B → B
or_else (Some x) g y = g x
or_else None g y = y

abbrev pub made_at : {A B : Type 0} → (A → B) → Reading A → Reading B
made_at make a symbols = do
  x ← a symbols
  Some (make x.0, x.1)

-- ---- keywords and signs

unfoldable pub same_word : Fixed → Fixed → Bool
same_word = sameb the_type

abbrev pub is_fixed : Fixed → Symbol → Bool
is_fixed word (fixed other) = same_word word other
is_fixed word (Name _) = false
is_fixed word (Number _ _) = false
is_fixed word (Text _) = false

-- what stands behind this keyword or sign
unfoldable pub eaten : Fixed → List Symbol → Option (List Symbol)
eaten word [] = None
eaten word (s ∷ symbols) = if is_fixed word s then Some symbols else None

-- whether NOT stands here, and what comes then
unfoldable pub not_at : List Symbol → Bool × List Symbol
not_at symbols = or_else (eaten f.Not symbols) (λ rest. (true, rest)) (false, symbols)

-- ---- lists

-- further items, each behind a separator, and at most so many
unfoldable pub more_at : {A : Type 0} → Fixed → Reading A → ℕ → Reading (List A)
more_at between item zero symbols = Some ([], symbols)
more_at between item (suc n) symbols =
    or_else (eaten between symbols) (λ rest. item rest >>= λ x. more_at between item n x.1 >>= λ xs. Some (x.0 ∷ xs.0, xs.1)) (Some ([], symbols))

-- what was read before, and what is still read
abbrev pub with_front : {A : Type 0} → List A → Option (List A × List Symbol) → Option (List A × List Symbol)
with_front front read = read >>= λ xs. Some (front ++ xs.0, xs.1)

unfoldable pub list_at : {A : Type 0} → Fixed → Reading A → Reading (List A)
list_at between item symbols = do
  x ← item symbols
  with_front (x.0 ∷ []) (more_at between item (length x.1) x.1)

-- ---- columns, terms and operands

abbrev pub first_by : {A : Type 0} → (Symbol → Option A) → Reading A
first_by of [] = None
first_by of (s ∷ symbols) = of s >>= λ x. Some (x, symbols)

unfoldable pub col_of : Symbol → Option Col
col_of (fixed word) = if same_word f.Vid word then Some col.Vid else None
col_of (Name name) = Some (col.Name name)
col_of (Number _ _) = None
col_of (Text _) = None

unfoldable pub col_at : Reading Col
col_at = first_by col_of

-- ( col )
unfoldable pub inner_at : Reading Col
inner_at symbols = do
  inside ← eaten f.Open symbols
  c ← col_at inside
  close ← eaten f.Close c.1
  Some (c.0, close)

unfoldable pub all_at : Reading Term
all_at symbols = do
  close ← eaten f.Close symbols
  Some (term.CountAll, close)

-- ( * ) or ( col )
unfoldable pub counted_at : Reading Term
counted_at symbols = do
  inside ← eaten f.Open symbols
  or_else (eaten f.Star inside) all_at (made_at term.Count inner_at symbols)

unfoldable pub term_at : Reading Term
term_at symbols =
    or_else (eaten f.Count symbols) counted_at
    (or_else (eaten f.Sum symbols) (made_at term.Sum inner_at)
    (or_else (eaten f.Min symbols) (made_at term.Min inner_at)
    (or_else (eaten f.Max symbols) (made_at term.Max inner_at)
    (made_at term.Plain col_at symbols))))

abbrev pub is_literal : Symbol → Bool
is_literal (fixed word) = same_word f.True word || same_word f.False word
is_literal (Name _) = false
is_literal (Number _ _) = true
is_literal (Text _) = true

unfoldable pub literal_of : Symbol → Option Value
literal_of (fixed word) = if same_word f.True word then Some (value.Flag true) else if same_word f.False word then Some (value.Flag false) else None
literal_of (Name _) = None
literal_of (Number number _) = Some (value.Int number)
literal_of (Text text) = Some (value.Text text)

abbrev pub may_stand : Bool → Term → Bool
may_stand aggregates (term.Plain _) = true
may_stand aggregates term.CountAll = aggregates
may_stand aggregates (term.Count _) = aggregates
may_stand aggregates (term.Sum _) = aggregates
may_stand aggregates (term.Min _) = aggregates
may_stand aggregates (term.Max _) = aggregates

-- a term, if it may stand here
unfoldable pub standing_at : Bool → Reading Operand
standing_at aggregates symbols = do
  t ← term_at symbols
  if may_stand aggregates t.0 then Some (operand.Term t.0, t.1) else None

-- a literal, or what else may stand as an operand
unfoldable pub operand_by : Reading Operand → Reading Operand
operand_by other [] = None
operand_by other (s ∷ symbols) =
    if is_literal s then (literal_of s >>= λ v. Some (operand.Literal v, symbols))
    else other (s ∷ symbols)

abbrev pub operand_at : Bool → Reading Operand
operand_at aggregates = operand_by (standing_at aggregates)

abbrev pub from_zero : ℤ → Option ℕ
from_zero (pos n) = Some n
from_zero (negsuc n) = None

unfoldable pub count_of : Symbol → Option ℕ
count_of (fixed _) = None
count_of (Name _) = None
count_of (Number number minus) = if minus then None else from_zero number
count_of (Text _) = None

unfoldable pub count_at : Reading ℕ
count_at = first_by count_of

unfoldable pub name_of : Symbol → Option (List ℕ)
name_of (fixed _) = None
name_of (Name name) = Some name
name_of (Number _ _) = None
name_of (Text _) = None

unfoldable pub name_at : Reading (List ℕ)
name_at = first_by name_of

unfoldable pub kind_at : Reading LineageKind
kind_at symbols =
    or_else (eaten f.Parents symbols) (λ rest. Some (lineage.Parents, rest))
    (or_else (eaten f.Ancestors symbols) (λ rest. Some (lineage.Ancestors, rest))
    (or_else (eaten f.Descendants symbols) (λ rest. Some (lineage.Descendants, rest)) None))

unfoldable pub lineage_at : Reading (LineageKind × ℕ)
lineage_at symbols = do
  kind ← kind_at symbols
  inside ← eaten f.Open kind.1
  vid ← count_at inside
  close ← eaten f.Close vid.1
  Some ((kind.0, vid.0), close)

-- ---- conditions

unfoldable pub sign_of : Fixed → Option Sign
sign_of word =
    if same_word f.Equal word then Some sign.Eq
    else if same_word f.Unequal word then Some sign.Ne
    else if same_word f.Less word then Some sign.Lt
    else if same_word f.LessOrEqual word then Some sign.Le
    else if same_word f.Greater word then Some sign.Gt
    else if same_word f.GreaterOrEqual word then Some sign.Ge
    else None

abbrev pub sign_by : Symbol → Option Sign
sign_by (fixed word) = sign_of word
sign_by (Name _) = None
sign_by (Number _ _) = None
sign_by (Text _) = None

unfoldable pub sign_at : Reading Sign
sign_at = first_by sign_by

-- VID IN or VID NOT IN: whether NOT stands there, and what comes then
unfoldable pub vid_in : List Symbol → Option (Bool × List Symbol)
vid_in symbols = do
  vid ← eaten f.Vid symbols
  lineage ← eaten f.In (not_at vid).1
  Some ((not_at vid).0, lineage)

unfoldable pub null_at : Operand → Reading Cond
null_at tested symbols = do
  null ← eaten f.Null (not_at symbols).1
  Some (cond.IsNull tested (not_at symbols).0, null)

unfoldable pub comparison_at : Reading Operand → Operand → Reading Cond
comparison_at operand left symbols = do
  by ← sign_at symbols
  right ← operand by.1
  Some (cond.Compare left by.0 right.0, right.1)

unfoldable pub operand_test_at : Reading Operand → Reading Cond
operand_test_at operand symbols = do
  left ← operand symbols
  or_else (eaten f.Is left.1) (null_at left.0) (comparison_at operand left.0 left.1)

unfoldable pub lineage_test_at : Bool × List Symbol → Option (Cond × List Symbol)
lineage_test_at begun = do
  l ← lineage_at begun.1
  Some (cond.InLineage l.0.0 l.0.1 begun.0, l.1)

unfoldable pub test_at : Bool → Reading Cond
test_at aggregates symbols = or_else (vid_in symbols) lineage_test_at (operand_test_at (operand_at aggregates) symbols)

unfoldable pub conj_at : Reading Cond → Reading Cond
conj_at unit = made_at every (list_at f.And unit)

unfoldable pub disj_at : Reading Cond → Reading Cond
disj_at conj = made_at any (list_at f.Or conj)

unfoldable pub closed_at : Reading Cond → Reading Cond
closed_at whole symbols = do
  c ← whole symbols
  close ← eaten f.Close c.1
  Some (c.0, close)

unfoldable pub unit_at : Reading Cond → ℕ → Reading Cond
unit_at test zero symbols = test symbols
unit_at test (suc depth) symbols =
    or_else (eaten f.Not symbols) (made_at cond.Not (unit_at test depth))
    (or_else (eaten f.Open symbols) (closed_at (disj_at (conj_at (unit_at test depth))))
    (test symbols))

unfoldable pub cond_at : Reading Cond → ℕ → Reading Cond
cond_at test depth = disj_at (conj_at (unit_at test depth))

-- ---- the parts of a query

unfoldable pub items_at : Reading Term → Reading Items
items_at item symbols = or_else (eaten f.Star symbols) (λ rest. Some (items.Everything, rest)) (made_at items.Terms (list_at f.Comma item) symbols)

unfoldable pub of_cvd_at : Reading (List ℕ)
of_cvd_at symbols = do
  of ← eaten f.Of symbols
  cvd ← eaten f.Cvd of
  name_at cvd

unfoldable pub listed_at : Reading Src
listed_at symbols = do
  vids ← list_at f.Comma count_at symbols
  name ← of_cvd_at vids.1
  Some (source.Listed vids.0 name.0, name.1)

unfoldable pub of_lineage_at : Reading Src
of_lineage_at symbols = do
  l ← lineage_at symbols
  name ← of_cvd_at l.1
  Some (source.Lineage l.0.0 l.0.1 name.0, name.1)

unfoldable pub source_at : Reading Src
source_at symbols =
    or_else (eaten f.Version symbols) listed_at
    (or_else (eaten f.Cvd symbols) (made_at source.Whole name_at)
    (of_lineage_at symbols))

unfoldable pub guard_at : Fixed → Reading Cond → Reading (Option Cond)
guard_at word condition symbols = or_else (eaten word symbols) (made_at (λ c. Some c) condition) (Some (None, symbols))

unfoldable pub grouped_at : Reading (List Col × Option Cond)
grouped_at symbols = do
  by ← eaten f.By symbols
  groups ← list_at f.Comma col_at by
  having ← guard_at f.Having (cond_at (test_at true) 100) groups.1
  Some ((groups.0, having.0), having.1)

unfoldable pub grouping_at : Reading (List Col × Option Cond)
grouping_at symbols = or_else (eaten f.Group symbols) grouped_at (Some (([], None), symbols))

-- whether DESC stands here, and what comes behind it or behind ASC
unfoldable pub direction_at : List Symbol → Bool × List Symbol
direction_at symbols =
    or_else (eaten f.Desc symbols) (λ rest. (true, rest))
    (or_else (eaten f.Asc symbols) (λ rest. (false, rest)) (false, symbols))

unfoldable pub key_at : Reading Term → Reading Key
key_at by symbols = do
  t ← by symbols
  Some (record { term = t.0; down = (direction_at t.1).0 }, (direction_at t.1).1)

unfoldable pub ordered_at : Reading Term → Reading (List Key)
ordered_at by symbols = do
  keys ← eaten f.By symbols
  list_at f.Comma (key_at by) keys

unfoldable pub order_at : Reading Term → Reading (List Key)
order_at by symbols = or_else (eaten f.Order symbols) (ordered_at by) (Some ([], symbols))

unfoldable pub limit_at : Reading (Option ℕ)
limit_at symbols = or_else (eaten f.Limit symbols) (made_at (λ n. Some n) count_at) (Some (None, symbols))

abbrev pub is_nothing : List Symbol → Bool
is_nothing [] = true
is_nothing (s ∷ symbols) = false

-- whether nothing is left but a semicolon
unfoldable pub is_end : List Symbol → Bool
is_end symbols = or_else (eaten f.Semicolon symbols) is_nothing (is_nothing symbols)

-- from ORDER BY on
unfoldable pub tail_at : Reading Term → List Symbol → Option (List Key × Option ℕ)
tail_at by symbols = do
  order ← order_at by symbols
  limit ← limit_at order.1
  if is_end limit.1 then Some (order.0, limit.0) else None

-- SELECT and FROM
unfoldable pub head_at : Reading (Items × Src)
head_at symbols = do
  select ← eaten f.Select symbols
  shown ← items_at term_at select
  from ← eaten f.From shown.1
  read ← source_at from
  Some ((shown.0, read.0), read.1)

-- WHERE, and GROUP BY with HAVING
unfoldable pub kept_at : Reading (Option Cond × (List Col × Option Cond))
kept_at symbols = do
  kept ← guard_at f.Where (cond_at (test_at false) 100) symbols
  grouped ← grouping_at kept.1
  Some ((kept.0, grouped.0), grouped.1)

abbrev pub made_of : Items × Src → Option Cond × (List Col × Option Cond) → List Key × Option ℕ → Query
made_of head kept tail = record { items = head.0; source = head.1; filter = kept.0; groups = kept.1.0; having = kept.1.1; order = tail.0; limit = tail.1 }

-- all of the symbols
unfoldable pub query_of : List Symbol → Option Query
query_of symbols = do
  head ← head_at symbols
  kept ← kept_at head.1
  tail ← tail_at term_at kept.1
  Some (made_of head.0 kept.0 tail)
