-- Rows and their keys, over plain lists.
--     IsOfKind v k      the value is NULL or of the kind
--     Fits s row      one value a column, each NULL or of its column's kind, and none at a key position is NULL
--     key_of s row      the list of its values at the key positions
--     value_cmp      int by number, text by bytes, false before true
--     key_cmp s a b      the keys of two rows, compared from the left
use Rattle.std.specs.Prelude.{◌≢◌, ℕ, Bool, true, false, List, [], ◌∷◌, map, slice_index_or}
use Rattle.std.specs.List.{All}
use Rattle.std.specs.Ordering.{nat_cmp, int_cmp, bool_cmp}
use Rattle.std.specs.declared.cmp.Ordering.{Ordering}
use Rattle.std.specs.Cmp.Lexicographic.{slice_cmp}
use Rattle.ov_value.specs.declared.column.Column.{Column}
use Rattle.ov_value.specs.declared.column.Kind.{Kind}
use Rattle.ov_value.specs.declared.column.Kind.TheVariants as kind
use Rattle.ov_value.specs.declared.value.Value.{Value}
use Rattle.ov_value.specs.declared.value.Value.TheVariants.{Int, Text, Flag, Null}
use Rattle.ov_value.specs.Shapes.{Shape}

-- as a test
abbrev pub is_null : Value → Bool
is_null (Int _) = false
is_null (Text _) = false
is_null (Flag _) = false
is_null Null = true

-- a value stands in a column of a kind where it is NULL or of that kind
abbrev pub IsOfKind : Value → Kind → Type 0
IsOfKind (Int _) kind.Int = Unit {0}
IsOfKind (Text _) kind.Text = Unit {0}
IsOfKind (Flag _) kind.Flag = Unit {0}
IsOfKind Null _ = Unit {0}
IsOfKind _ _ = ⊥

-- one value a column, each NULL or of its column's kind
abbrev pub HasKinds : List Value → List Column → Type 0
HasKinds [] [] = Unit {0}
HasKinds (value ∷ values) (column ∷ columns) = IsOfKind value column.kind × HasKinds values columns
HasKinds _ _ = ⊥

-- the value at a position; NULL where the row has none there, as no row that fits has at a key position
abbrev pub value_at : List Value → ℕ → Value
value_at row place = slice_index_or row place Null

-- the values at the key positions
abbrev pub key_of : Shape → List Value → List Value
key_of schema row = map (value_at row) schema.key

pub record Fits (schema : Shape) (row : List Value) : Type 0 where
  pub kinds : HasKinds row schema.columns
  pub keyed : All (λ place. value_at row place ≢ Null) schema.key

-- where two values of unlike kinds stand; in one column of rows that fit there are none
abbrev pub rank : Value → ℕ
rank (Int _) = 0
rank (Text _) = 1
rank (Flag _) = 2
rank Null = 3

abbrev pub value_cmp : Value → Value → Ordering
value_cmp (Int x) (Int y) = int_cmp x y
value_cmp (Text xs) (Text ys) = slice_cmp nat_cmp xs ys
value_cmp (Flag x) (Flag y) = bool_cmp x y
value_cmp v w = nat_cmp (rank v) (rank w)

-- the first pair of values that isn't equal decides
abbrev pub key_cmp : Shape → List Value → List Value → Ordering
key_cmp schema a b = slice_cmp value_cmp (key_of schema a) (key_of schema b)
