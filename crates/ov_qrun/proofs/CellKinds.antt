-- Cells of one kind: their order by rank is that of the definitions; and which kind a term's cells have.
use Rattle.std.proofs.Common.{◌≡◌, ◌∷◌, ◌∙◌, [], ℕ, zero, suc, ℤ, pos, List, Bool, true, false, if◌then◌else◌, ap, ap₂, refl, sym, subst, map, get_or, true≢false, nat_cmp, int_cmp, Ordering, Less, Equal, Greater}
use Rattle.std.specs.Prelude.{⊤}
use Rattle.std.specs.List.{AllByRecursion}
use Rattle.std.specs.Ordering.{on, ordering_then, then_cmp}
use Rattle.std.specs.Cmp.{IsTotalOrder}
use Rattle.std.specs.Cmp.Lexicographic.{slice_cmp}
use Rattle.std.proofs.lemmas.Cmp.{back_total, int_cmp_total, lists_total, nat_cmp_total, nat_list_cmp_total, on_total, then_total}
use Rattle.ov_value.specs.Rows.{HasKinds, IsOfKind}
use Rattle.ov_value.specs.Shapes.{Shape}
use Rattle.ov_value.specs.declared.column.Column.{Column}
use Rattle.ov_value.specs.declared.column.Kind.{Kind}
use Rattle.ov_value.specs.declared.column.Kind.TheVariants as kind
use Rattle.ov_value.specs.declared.value.Value.{Value}
use Rattle.ov_value.specs.declared.value.Value.TheVariants as value
use Rattle.ov_model.specs.Answers.{Pair, cells_order, column_at, first_by, greatest_from, group_key, here_for, is_below, is_present, least_from, list_order, order_by, present, sum_cell, term_of_group, value_in, value_order, Related}
use Rattle.ov_model.specs.declared.answer.Cell.{Cell}
use Rattle.ov_model.specs.declared.answer.Cell.TheVariants as cell
use Rattle.ov_model.specs.declared.query.Col.{Col}
use Rattle.ov_model.specs.declared.query.Col.TheVariants as col
use Rattle.ov_model.specs.declared.query.Key.{Key}
use Rattle.ov_model.specs.declared.query.Term.{Term}
use Rattle.ov_model.specs.declared.query.Term.TheVariants as term
use Rattle.ov_qrun.specs.Ranking.{first_cell, later_cells, rank, ranked, ranked_by, ranked_lists, turned_by}
use Rattle.ov_qrun.proofs.Sorting.{filter-all}

-- ---- the order by rank is total

abbrev number : Cell → ℤ
number (cell.Value value.Null) = pos 0
number cell.Nothing = pos 0
number (cell.Value (value.Flag true)) = pos 1
number (cell.Value (value.Flag false)) = pos 0
number (cell.Value (value.Int n)) = n
number (cell.Sum n) = n
number (cell.Value (value.Text _)) = pos 0

abbrev text : Cell → List ℕ
text (cell.Value value.Null) = []
text cell.Nothing = []
text (cell.Value (value.Flag _)) = []
text (cell.Value (value.Int _)) = []
text (cell.Sum _) = []
text (cell.Value (value.Text t)) = t

abbrev by_parts : Cell → Cell → Ordering
by_parts = then_cmp (on rank nat_cmp) (then_cmp (on number int_cmp) (on text (slice_cmp nat_cmp)))

then-equal : (o : Ordering) → o ≡ ordering_then o Equal
then-equal Less = refl
then-equal Equal = refl
then-equal Greater = refl

parts : (a b : Cell) → ranked a b ≡ by_parts a b
parts (cell.Value value.Null) (cell.Value value.Null) = refl
parts (cell.Value value.Null) cell.Nothing = refl
parts (cell.Value value.Null) (cell.Value (value.Flag c)) = refl
parts (cell.Value value.Null) (cell.Value (value.Int m)) = refl
parts (cell.Value value.Null) (cell.Sum m) = refl
parts (cell.Value value.Null) (cell.Value (value.Text u)) = refl
parts cell.Nothing (cell.Value value.Null) = refl
parts cell.Nothing cell.Nothing = refl
parts cell.Nothing (cell.Value (value.Flag c)) = refl
parts cell.Nothing (cell.Value (value.Int m)) = refl
parts cell.Nothing (cell.Sum m) = refl
parts cell.Nothing (cell.Value (value.Text u)) = refl
parts (cell.Value (value.Flag b)) (cell.Value value.Null) = refl
parts (cell.Value (value.Flag b)) cell.Nothing = refl
parts (cell.Value (value.Flag true)) (cell.Value (value.Flag true)) = refl
parts (cell.Value (value.Flag true)) (cell.Value (value.Flag false)) = refl
parts (cell.Value (value.Flag false)) (cell.Value (value.Flag true)) = refl
parts (cell.Value (value.Flag false)) (cell.Value (value.Flag false)) = refl
parts (cell.Value (value.Flag b)) (cell.Value (value.Int m)) = refl
parts (cell.Value (value.Flag b)) (cell.Sum m) = refl
parts (cell.Value (value.Flag b)) (cell.Value (value.Text u)) = refl
parts (cell.Value (value.Int n)) (cell.Value value.Null) = refl
parts (cell.Value (value.Int n)) cell.Nothing = refl
parts (cell.Value (value.Int n)) (cell.Value (value.Flag c)) = refl
parts (cell.Value (value.Int n)) (cell.Value (value.Int m)) = then-equal (int_cmp n m)
parts (cell.Value (value.Int n)) (cell.Sum m) = then-equal (int_cmp n m)
parts (cell.Value (value.Int n)) (cell.Value (value.Text u)) = refl
parts (cell.Sum n) (cell.Value value.Null) = refl
parts (cell.Sum n) cell.Nothing = refl
parts (cell.Sum n) (cell.Value (value.Flag c)) = refl
parts (cell.Sum n) (cell.Value (value.Int m)) = sym (int_cmp_total.antisymm n m) ∙ then-equal (int_cmp n m)
parts (cell.Sum n) (cell.Sum m) = then-equal (int_cmp n m)
parts (cell.Sum n) (cell.Value (value.Text u)) = refl
parts (cell.Value (value.Text t)) (cell.Value value.Null) = refl
parts (cell.Value (value.Text t)) cell.Nothing = refl
parts (cell.Value (value.Text t)) (cell.Value (value.Flag c)) = refl
parts (cell.Value (value.Text t)) (cell.Value (value.Int m)) = refl
parts (cell.Value (value.Text t)) (cell.Sum m) = refl
parts (cell.Value (value.Text t)) (cell.Value (value.Text u)) = refl

parts-total : IsTotalOrder by_parts
parts-total = then_total (on_total rank nat_cmp_total) (then_total (on_total number int_cmp_total) (on_total text nat_list_cmp_total))

pub ranked-total : IsTotalOrder ranked
ranked-total = subst IsTotalOrder (sym (λ i a b. parts a b i)) parts-total

pub lists-total : IsTotalOrder ranked_lists
lists-total = lists_total ranked-total

-- ---- cells of one kind

abbrev is_int : Kind → Bool
is_int kind.Int = true
is_int kind.Text = false
is_int kind.Flag = false

abbrev is_text : Kind → Bool
is_text kind.Int = false
is_text kind.Text = true
is_text kind.Flag = false

abbrev is_flag : Kind → Bool
is_flag kind.Int = false
is_flag kind.Text = false
is_flag kind.Flag = true

abbrev pub is_of : Kind → Cell → Bool
is_of k (cell.Value value.Null) = true
is_of k cell.Nothing = true
is_of k (cell.Value (value.Flag _)) = is_flag k
is_of k (cell.Value (value.Int _)) = is_int k
is_of k (cell.Sum _) = is_int k
is_of k (cell.Value (value.Text _)) = is_text k

int-text : {A : Type 0} (k : Kind) → is_int k ≡ true → is_text k ≡ true → A
int-text kind.Int e f = absurd (true≢false (sym f))
int-text kind.Text e f = absurd (true≢false (sym e))
int-text kind.Flag e f = absurd (true≢false (sym e))

int-flag : {A : Type 0} (k : Kind) → is_int k ≡ true → is_flag k ≡ true → A
int-flag kind.Int e f = absurd (true≢false (sym f))
int-flag kind.Text e f = absurd (true≢false (sym e))
int-flag kind.Flag e f = absurd (true≢false (sym e))

text-flag : {A : Type 0} (k : Kind) → is_text k ≡ true → is_flag k ≡ true → A
text-flag kind.Int e f = absurd (true≢false (sym e))
text-flag kind.Text e f = absurd (true≢false (sym f))
text-flag kind.Flag e f = absurd (true≢false (sym e))

pub agree : (k : Kind) (a b : Cell) → is_of k a ≡ true → is_of k b ≡ true → ranked a b ≡ cells_order a b
agree k (cell.Value value.Null) (cell.Value value.Null) e f = refl
agree k (cell.Value value.Null) cell.Nothing e f = refl
agree k (cell.Value value.Null) (cell.Value (value.Flag c)) e f = refl
agree k (cell.Value value.Null) (cell.Value (value.Int m)) e f = refl
agree k (cell.Value value.Null) (cell.Sum m) e f = refl
agree k (cell.Value value.Null) (cell.Value (value.Text u)) e f = refl
agree k cell.Nothing (cell.Value value.Null) e f = refl
agree k cell.Nothing cell.Nothing e f = refl
agree k cell.Nothing (cell.Value (value.Flag c)) e f = refl
agree k cell.Nothing (cell.Value (value.Int m)) e f = refl
agree k cell.Nothing (cell.Sum m) e f = refl
agree k cell.Nothing (cell.Value (value.Text u)) e f = refl
agree k (cell.Value (value.Flag b)) (cell.Value value.Null) e f = refl
agree k (cell.Value (value.Flag b)) cell.Nothing e f = refl
agree k (cell.Value (value.Flag b)) (cell.Value (value.Flag c)) e f = refl
agree k (cell.Value (value.Flag b)) (cell.Value (value.Int m)) e f = int-flag k f e
agree k (cell.Value (value.Flag b)) (cell.Sum m) e f = int-flag k f e
agree k (cell.Value (value.Flag b)) (cell.Value (value.Text u)) e f = text-flag k f e
agree k (cell.Value (value.Int n)) (cell.Value value.Null) e f = refl
agree k (cell.Value (value.Int n)) cell.Nothing e f = refl
agree k (cell.Value (value.Int n)) (cell.Value (value.Flag c)) e f = int-flag k e f
agree k (cell.Value (value.Int n)) (cell.Value (value.Int m)) e f = refl
agree k (cell.Value (value.Int n)) (cell.Sum m) e f = refl
agree k (cell.Value (value.Int n)) (cell.Value (value.Text u)) e f = int-text k e f
agree k (cell.Sum n) (cell.Value value.Null) e f = refl
agree k (cell.Sum n) cell.Nothing e f = refl
agree k (cell.Sum n) (cell.Value (value.Flag c)) e f = int-flag k e f
agree k (cell.Sum n) (cell.Value (value.Int m)) e f = refl
agree k (cell.Sum n) (cell.Sum m) e f = refl
agree k (cell.Sum n) (cell.Value (value.Text u)) e f = int-text k e f
agree k (cell.Value (value.Text t)) (cell.Value value.Null) e f = refl
agree k (cell.Value (value.Text t)) cell.Nothing e f = refl
agree k (cell.Value (value.Text t)) (cell.Value (value.Flag c)) e f = text-flag k e f
agree k (cell.Value (value.Text t)) (cell.Value (value.Int m)) e f = int-text k f e
agree k (cell.Value (value.Text t)) (cell.Sum m) e f = int-text k f e
agree k (cell.Value (value.Text t)) (cell.Value (value.Text u)) e f = refl

-- ---- the kind of a column, and of a term

abbrev kind_at : List Column → ℕ → Kind
kind_at [] i = kind.Int
kind_at (c ∷ cs) zero = c.kind
kind_at (c ∷ cs) (suc i) = kind_at cs i

of-kind : (v : Value) (k : Kind) → IsOfKind v k → is_of k (cell.Value v) ≡ true
of-kind (value.Int n) kind.Int h = refl
of-kind (value.Int n) kind.Text h = absurd h
of-kind (value.Int n) kind.Flag h = absurd h
of-kind (value.Text t) kind.Int h = absurd h
of-kind (value.Text t) kind.Text h = refl
of-kind (value.Text t) kind.Flag h = absurd h
of-kind (value.Flag b) kind.Int h = absurd h
of-kind (value.Flag b) kind.Text h = absurd h
of-kind (value.Flag b) kind.Flag h = refl
of-kind value.Null k h = refl

-- at each place the row has a value of the column's kind, or none
abbrev pub IsOfKinds : Shape → List Value → Type 0
IsOfKinds schema row = (i : ℕ) → is_of (kind_at schema.columns i) (cell.Value (get_or row i value.Null)) ≡ true

kinds-at : (row : List Value) (columns : List Column) → HasKinds row columns → (i : ℕ) → is_of (kind_at columns i) (cell.Value (get_or row i value.Null)) ≡ true
kinds-at [] [] h i = refl
kinds-at [] (c ∷ cs) h i = absurd h
kinds-at (v ∷ vs) [] h i = absurd h
kinds-at (v ∷ vs) (c ∷ cs) h zero = of-kind v c.kind h.0
kinds-at (v ∷ vs) (c ∷ cs) h (suc i) = kinds-at vs cs h.1 i

pub row-kinds : (schema : Shape) (row : List Value) → HasKinds row schema.columns → IsOfKinds schema row
row-kinds schema row h = kinds-at row schema.columns h

pub no-row : (schema : Shape) → IsOfKinds schema []
no-row schema i = refl

abbrev pub PairFits : Shape → Pair → Type 0
PairFits schema pair = IsOfKinds schema pair.row

abbrev col_kind : Shape → Col → Kind
col_kind schema col.Vid = kind.Int
col_kind schema (col.Name name) = kind_at schema.columns (column_at schema name)
col_kind schema (col.Left name) = kind.Int
col_kind schema (col.Right name) = kind.Int

value-kind : (schema : Shape) (pair : Pair) (c : Col) → PairFits schema pair → is_of (col_kind schema c) (cell.Value (value_in schema pair c)) ≡ true
value-kind schema pair col.Vid fits = refl
value-kind schema pair (col.Name name) fits = fits (column_at schema name)
value-kind schema pair (col.Left name) fits = refl
value-kind schema pair (col.Right name) fits = refl

-- ---- aggregates

abbrev AreOf : Kind → List Value → Type 0
AreOf k = AllByRecursion (λ v. is_of k (cell.Value v) ≡ true)

values-are : (schema : Shape) (c : Col) (group : List Pair) → AllByRecursion (PairFits schema) group
    → AreOf (col_kind schema c) (map (λ pair. value_in schema pair c) group)
values-are schema c [] all = tt
values-are schema c (pair ∷ rest) all = (value-kind schema pair c all.0, values-are schema c rest all.1)

present-are : (schema : Shape) (c : Col) (group : List Pair) → AllByRecursion (PairFits schema) group → AreOf (col_kind schema c) (present schema group c)
present-are schema c group all =
    filter-all (λ v. is_of (col_kind schema c) (cell.Value v) ≡ true) is_present (map (λ pair. value_in schema pair c) group) (values-are schema c group all)

pick-if : (k : Kind) (b : Bool) (v w : Value) → is_of k (cell.Value v) ≡ true → is_of k (cell.Value w) ≡ true → is_of k (cell.Value (if b then w else v)) ≡ true
pick-if k true v w e f = f
pick-if k false v w e f = e

least-is : (k : Kind) (v : Value) (vs : List Value) → is_of k (cell.Value v) ≡ true → AreOf k vs → is_of k (cell.Value (least_from v vs)) ≡ true
least-is k v [] e all = e
least-is k v (w ∷ ws) e all =
    least-is k (if is_below (value_order w v) then w else v) ws (pick-if k (is_below (value_order w v)) v w e all.0) all.1

greatest-is : (k : Kind) (v : Value) (vs : List Value) → is_of k (cell.Value v) ≡ true → AreOf k vs → is_of k (cell.Value (greatest_from v vs)) ≡ true
greatest-is k v [] e all = e
greatest-is k v (w ∷ ws) e all =
    greatest-is k (if is_below (value_order v w) then w else v) ws (pick-if k (is_below (value_order v w)) v w e all.0) all.1

first-least : (k : Kind) (vs : List Value) → AreOf k vs → is_of k (first_by least_from vs) ≡ true
first-least k [] all = refl
first-least k (v ∷ vs) all = least-is k v vs all.0 all.1

first-greatest : (k : Kind) (vs : List Value) → AreOf k vs → is_of k (first_by greatest_from vs) ≡ true
first-greatest k [] all = refl
first-greatest k (v ∷ vs) all = greatest-is k v vs all.0 all.1

sum-is : (vs : List Value) → is_of kind.Int (sum_cell vs) ≡ true
sum-is [] = refl
sum-is (v ∷ vs) = refl

abbrev term_kind : Shape → Term → Kind
term_kind schema (term.Plain c) = col_kind schema c
term_kind schema term.CountAll = kind.Int
term_kind schema (term.Count c) = kind.Int
term_kind schema (term.Sum c) = kind.Int
term_kind schema (term.Min c) = col_kind schema c
term_kind schema (term.Max c) = col_kind schema c

plain-is : (schema : Shape) (group : List Pair) (c : Col) → AllByRecursion (PairFits schema) group → is_of (col_kind schema c) (term_of_group schema group (term.Plain c)) ≡ true
plain-is schema [] c all = refl
plain-is schema (pair ∷ rest) c all = value-kind schema pair c all.0

term-is : (schema : Shape) (group : List Pair) (t : Term) → AllByRecursion (PairFits schema) group → is_of (term_kind schema t) (term_of_group schema group t) ≡ true
term-is schema group (term.Plain c) all = plain-is schema group c all
term-is schema group term.CountAll all = refl
term-is schema group (term.Count c) all = refl
term-is schema group (term.Sum c) all = sum-is (present schema group c)
term-is schema group (term.Min c) all = first-least (col_kind schema c) (present schema group c) (present-are schema c group all)
term-is schema group (term.Max c) all = first-greatest (col_kind schema c) (present schema group c) (present-are schema c group all)

-- ---- the keys of ORDER BY

pub order-agree : (schema : Shape) (related : Related) (keys : List Key) (a b : List Pair) → AllByRecursion (PairFits schema) a → AllByRecursion (PairFits schema) b
    → ranked_by keys (map (λ key. term_of_group schema a key.term) keys) (map (λ key. term_of_group schema b key.term) keys)
    ≡ order_by keys (here_for schema related a) (here_for schema related b)
order-agree schema related [] a b fa fb = refl
order-agree schema related (key ∷ keys) a b fa fb =
    ap₂ ordering_then
    (ap (turned_by key.down) (agree (term_kind schema key.term) (term_of_group schema a key.term) (term_of_group schema b key.term)
    (term-is schema a key.term fa) (term-is schema b key.term fb)))
    (order-agree schema related keys a b fa fb)

turned-total : (down : Bool) → IsTotalOrder (λ a b. turned_by down (ranked a b))
turned-total true = subst IsTotalOrder (λ i a b. ranked-total.antisymm b a i) (back_total ranked-total)
turned-total false = ranked-total

pub keys-total : (keys : List Key) → IsTotalOrder (ranked_by keys)
keys-total [] = record { antisymm = λ x y. refl; trans = λ x y z e f. e; congr = λ x y z e. refl }
keys-total (key ∷ keys) = then_total (on_total first_cell (turned-total key.down)) (on_total later_cells (keys-total keys))

-- ---- the keys of groups

abbrev pub KeyIs : Shape → List Col → List Cell → Type 0
KeyIs schema [] [] = ⊤
KeyIs schema (c ∷ cs) (x ∷ xs) = (is_of (col_kind schema c) x ≡ true) × KeyIs schema cs xs
KeyIs schema _ _ = ⊥

pub key-is : (schema : Shape) (cs : List Col) (pair : Pair) → PairFits schema pair → KeyIs schema cs (group_key schema cs pair)
key-is schema [] pair fits = tt
key-is schema (c ∷ cs) pair fits = (value-kind schema pair c fits, key-is schema cs pair fits)

pub lists-agree : (schema : Shape) (cs : List Col) (a b : List Cell) → KeyIs schema cs a → KeyIs schema cs b → ranked_lists a b ≡ list_order a b
lists-agree schema [] [] [] e f = refl
lists-agree schema [] [] (y ∷ ys) e f = absurd f
lists-agree schema [] (x ∷ xs) b e f = absurd e
lists-agree schema (c ∷ cs) [] b e f = absurd e
lists-agree schema (c ∷ cs) (x ∷ xs) [] e f = absurd f
lists-agree schema (c ∷ cs) (x ∷ xs) (y ∷ ys) e f =
    ap₂ ordering_then (agree (col_kind schema c) x y e.0 f.0) (lists-agree schema cs xs ys e.1 f.1)
