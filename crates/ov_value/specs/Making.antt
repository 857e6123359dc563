-- What a schema is made of: the answer to columns and the names of key columns, and to columns that are added.
--     schema_of columns key      the schema, or the first refusal
--     widened s added      the schema with these columns appended at the right and the same key, or the first refusal
-- Want of memory is no part of it.
use Rattle.std.specs.Prelude.{ℕ, Bool, not, ◌==◌, nat_eq, nat_lt, if◌then◌else◌, List, [], ◌∷◌, ◌++◌, length, map, Option, Some, None, Result, Ok, Err}
use Rattle.std.specs.List.{list_any, position_or_len}
use Rattle.std.specs.Option.{option_or}
use Rattle.std.specs.Cmp.Lexicographic.{pointwise}
use Rattle.ov_value.specs.declared.column.Column.{Column}
use Rattle.ov_value.specs.declared.schema_err.SchemaErr.{SchemaErr}
use Rattle.ov_value.specs.declared.schema_err.SchemaErr.TheVariants.{NoColumns, TooManyColumns, BadName, RepeatedName, NoKey, UnknownKey, RepeatedKey}
use Rattle.ov_value.specs.Naming.{is_column_name}
use Rattle.ov_value.specs.Shapes.{Shape, names}

-- whether the name is one of the names
abbrev pub is_among : List ℕ → List (List ℕ) → Bool
is_among name others = list_any (pointwise nat_eq name) others

-- names from the left, after the names `before`: each passes the test, and is there once
unfoldable pub name_refusal : (List ℕ → Bool) → (List ℕ → SchemaErr) → (List ℕ → SchemaErr) → List (List ℕ) → List (List ℕ) → Option SchemaErr
name_refusal test failed repeated before [] = None
name_refusal test failed repeated before (name ∷ rest) =
    if not (test name) then Some (failed name)
    else if is_among name before then Some (repeated name)
    else name_refusal test failed repeated (before ++ name ∷ []) rest

-- 1 to 64 columns, and each has the name of a column, and is there once
unfoldable pub column_refusal : List Column → Option SchemaErr
column_refusal columns =
    if length columns == 0 then Some NoColumns
    else if nat_lt 64 (length columns) then Some TooManyColumns
    else name_refusal is_column_name BadName RepeatedName [] (names columns)

-- at least one key column, and each is one of the columns, and is there once
unfoldable pub key_refusal : List Column → List (List ℕ) → Option SchemaErr
key_refusal columns key =
    if length key == 0 then Some NoKey
    else name_refusal (λ name. is_among name (names columns)) UnknownKey RepeatedKey [] key

-- the position of the column with this name
abbrev pub place_of : List Column → List ℕ → ℕ
place_of columns name = position_or_len (λ column. pointwise nat_eq name column.name) columns

-- the refusal, or else the schema
abbrev pub answer_of : Option SchemaErr → Shape → Result Shape SchemaErr
answer_of None schema = Ok schema
answer_of (Some refusal) schema = Err refusal

abbrev pub schema_of : List Column → List (List ℕ) → Result Shape SchemaErr
schema_of columns key =
    answer_of (option_or (column_refusal columns) (key_refusal columns key))
    (record { columns = columns; key = map (place_of columns) key })

abbrev pub widened : Shape → List Column → Result Shape SchemaErr
widened schema added =
    answer_of (if length added == 0 then Some NoColumns else column_refusal (schema.columns ++ added))
    (record { columns = schema.columns ++ added; key = schema.key })
