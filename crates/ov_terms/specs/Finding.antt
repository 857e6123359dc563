-- Terms and conditions whose columns were found once, so that over rows no name is looked up.
--     value_at lookup pair      the value of a column in a pair
--     found_term group term      what a term is over a group
--     found_truth group condition      what a condition says of a group; found_holds, of WHERE or HAVING
--     shown_by items group      the row of an answer that a group gives
--     IsOfRow condition      it says the same of a row in every version
--     IsOfVersion condition      it says the same of all rows of a version
--     IsNever condition      it is false of each group; TakesNone, a WHERE that takes no pair
--     SaysSame vid condition made      what is made of a condition says the same of each row in this version; TakesSame, of WHERE
--     IsLookup, IsFoundTerm, IsFoundOperand, IsFound, IsFoundGuard, IsFoundItems      it is found of what a query names, in a schema: they say the
--         same of all groups of pairs
use Rattle.std.specs.Prelude.{◌≡◌, ℕ, pos, Bool, true, false, List, [], ◌∷◌, length, map, filter, slice_index_or, Option, Some, None}
use Rattle.std.specs.List.{list_any}
use Rattle.ov_value.specs.declared.value.Value.{Value}
use Rattle.ov_value.specs.declared.value.Value.TheVariants as value
use Rattle.ov_value.specs.Shapes.{Shape}
use Rattle.ov_model.specs.Answers.{Pair, Related, cell_order, compared, first_by, greatest_from, here_for, holds, is_null_cell, is_present, is_true, is_version, least_from, operand_in, row_of, shown, sum_cell, term_of_group, truth, truth_any, truth_every, truth_not, turned_if, value_in}
use Rattle.ov_model.specs.Book.{Row}
use Rattle.ov_model.specs.declared.answer.Cell.{Cell}
use Rattle.ov_model.specs.declared.answer.Cell.TheVariants as cell
use Rattle.ov_model.specs.declared.query.Col.{Col}
use Rattle.ov_model.specs.declared.query.Cond.{Cond}
use Rattle.ov_model.specs.declared.query.Items.{Items}
use Rattle.ov_model.specs.declared.query.Operand.{Operand}
use Rattle.ov_model.specs.declared.query.Term.{Term}
use Rattle.ov_terms.specs.declared.lookup.Lookup.{Lookup}
use Rattle.ov_terms.specs.declared.lookup.Lookup.TheVariants as lookup
use Rattle.ov_terms.specs.declared.found_term.FoundTerm.{FoundTerm}
use Rattle.ov_terms.specs.declared.found_term.FoundTerm.TheVariants as term
use Rattle.ov_terms.specs.declared.found_operand.FoundOperand.{FoundOperand}
use Rattle.ov_terms.specs.declared.found_operand.FoundOperand.TheVariants as operand
use Rattle.ov_terms.specs.declared.found_items.FoundItems.{FoundItems}
use Rattle.ov_terms.specs.declared.found_items.FoundItems.TheVariants as items
use Rattle.ov_terms.specs.declared.found_cond.FoundCond.{FoundCond}
use Rattle.ov_terms.specs.declared.found_cond.FoundCond.TheOpen.{FoundCond-F}
use Rattle.ov_terms.specs.declared.found_cond.FoundCond.TheFolds.{fold-FoundCond}

abbrev pub value_at : Lookup → Pair → Value
value_at lookup.Vid pair = value.Int (pos pair.vid)
value_at (lookup.Column place) pair = slice_index_or pair.row place value.Null
value_at lookup.Nowhere pair = value.Null

-- the values that aren't NULL
abbrev pub present_at : List Pair → Lookup → List Value
present_at group found = filter is_present (map (value_at found) group)

-- the value in the first pair, which is the same in each of a group
abbrev pub first_value : List Pair → Lookup → Cell
first_value [] found = cell.Nothing
first_value (pair ∷ rest) found = cell.Value (value_at found pair)

abbrev pub found_term : List Pair → FoundTerm → Cell
found_term group (term.Plain found) = first_value group found
found_term group term.CountAll = cell.Sum (pos (length group))
found_term group (term.Count found) = cell.Sum (pos (length (present_at group found)))
found_term group (term.Sum found) = sum_cell (present_at group found)
found_term group (term.Min found) = first_by least_from (present_at group found)
found_term group (term.Max found) = first_by greatest_from (present_at group found)

abbrev pub found_operand : List Pair → FoundOperand → Cell
found_operand group (operand.Term t) = found_term group t
found_operand group (operand.Literal v) = cell.Value v

-- whether the version of a group is among these
abbrev pub is_among : List Pair → List ℕ → Bool
is_among group vids = list_any (is_version (first_value group lookup.Vid)) vids

abbrev pub found_step : List Pair → FoundCond-F (Option Bool) → Option Bool
found_step group (FoundCond-F.Compare left by right) = compared by (cell_order (found_operand group left) (found_operand group right))
found_step group (FoundCond-F.IsNull x negated) = Some (turned_if negated (is_null_cell (found_operand group x)))
found_step group (FoundCond-F.InList vids negated) = Some (turned_if negated (is_among group vids))
found_step group (FoundCond-F.Not t) = truth_not t
found_step group (FoundCond-F.Every ts) = truth_every ts
found_step group (FoundCond-F.Any ts) = truth_any ts

abbrev pub found_truth : List Pair → FoundCond → Option Bool
found_truth group = fold-FoundCond (Option Bool) (found_step group)

abbrev pub found_holds : Option FoundCond → List Pair → Bool
found_holds None group = true
found_holds (Some c) group = is_true (found_truth group c)

abbrev pub in_version : ℕ → Row → Pair
in_version vid row = record { vid = vid; row = row }

-- whether WHERE takes a pair, which is read as the group of itself alone
abbrev pub is_taken : Option FoundCond → Pair → Bool
is_taken guard pair = found_holds guard (pair ∷ [])

-- the row of an answer that a group gives
abbrev pub shown_by : FoundItems → List Pair → List Cell
shown_by items.Everything group = row_of group
shown_by (items.Terms terms) group = map (found_term group) terms

-- it says the same of a row in every version
abbrev pub IsLookupOfRow : Lookup → Type 0
IsLookupOfRow found = (v w : ℕ) (row : Row) → value_at found (in_version v row) ≡ value_at found (in_version w row)

abbrev pub IsTermOfRow : FoundTerm → Type 0
IsTermOfRow found = (v w : ℕ) (row : Row) → found_term (in_version v row ∷ []) found ≡ found_term (in_version w row ∷ []) found

abbrev pub IsOperandOfRow : FoundOperand → Type 0
IsOperandOfRow found = (v w : ℕ) (row : Row) → found_operand (in_version v row ∷ []) found ≡ found_operand (in_version w row ∷ []) found

abbrev pub IsOfRow : FoundCond → Type 0
IsOfRow found = (v w : ℕ) (row : Row) → found_truth (in_version v row ∷ []) found ≡ found_truth (in_version w row ∷ []) found

abbrev pub IsGuardOfRow : Option FoundCond → Type 0
IsGuardOfRow guard = (v w : ℕ) (row : Row) → is_taken guard (in_version v row) ≡ is_taken guard (in_version w row)

-- what is made of a condition or a WHERE says the same of the rows of this version
abbrev pub SaysSame : ℕ → FoundCond → FoundCond → Type 0
SaysSame vid found made = (row : Row) → found_truth (in_version vid row ∷ []) made ≡ found_truth (in_version vid row ∷ []) found

abbrev pub TakesSame : ℕ → Option FoundCond → Option FoundCond → Type 0
TakesSame vid guard made = (row : Row) → is_taken made (in_version vid row) ≡ is_taken guard (in_version vid row)

-- it says the same of all rows of a version
abbrev pub IsLookupOfVersion : Lookup → Type 0
IsLookupOfVersion found = (vid : ℕ) (a b : Row) → value_at found (in_version vid a) ≡ value_at found (in_version vid b)

abbrev pub IsTermOfVersion : FoundTerm → Type 0
IsTermOfVersion found = (vid : ℕ) (a b : Row) → found_term (in_version vid a ∷ []) found ≡ found_term (in_version vid b ∷ []) found

abbrev pub IsOperandOfVersion : FoundOperand → Type 0
IsOperandOfVersion found = (vid : ℕ) (a b : Row) → found_operand (in_version vid a ∷ []) found ≡ found_operand (in_version vid b ∷ []) found

abbrev pub IsOfVersion : FoundCond → Type 0
IsOfVersion found = (vid : ℕ) (a b : Row) → found_truth (in_version vid a ∷ []) found ≡ found_truth (in_version vid b ∷ []) found

-- it is false of each group
abbrev pub IsNever : FoundCond → Type 0
IsNever found = (group : List Pair) → found_truth group found ≡ Some false

abbrev pub TakesNone : Option FoundCond → Type 0
TakesNone guard = (pair : Pair) → is_taken guard pair ≡ false

abbrev pub IsLookup : Shape → Col → Lookup → Type 0
IsLookup schema col found = (pair : Pair) → value_at found pair ≡ value_in schema pair col

abbrev pub IsFoundTerm : Shape → Term → FoundTerm → Type 0
IsFoundTerm schema t found = (group : List Pair) → found_term group found ≡ term_of_group schema group t

abbrev pub IsFoundOperand : Shape → Operand → FoundOperand → Type 0
IsFoundOperand schema x found = (related : Related) (group : List Pair) → found_operand group found ≡ operand_in (here_for schema related group) x

abbrev pub IsFound : Shape → Cond → FoundCond → Type 0
IsFound schema c found = (related : Related) (group : List Pair) → found_truth group found ≡ truth (here_for schema related group) c

abbrev pub IsFoundGuard : Shape → Option Cond → Option FoundCond → Type 0
IsFoundGuard schema guard found = (related : Related) (group : List Pair) → found_holds found group ≡ holds (here_for schema related group) guard

abbrev pub IsFoundItems : Shape → Items → FoundItems → Type 0
IsFoundItems schema items found = (group : List Pair) → shown_by found group ≡ shown schema items group

-- whether WHERE takes each row, where it says the same in every version
abbrev pub verdicts : Option FoundCond → List Row → List Bool
verdicts guard rows = map (λ row. is_taken guard (in_version 0 row)) rows
