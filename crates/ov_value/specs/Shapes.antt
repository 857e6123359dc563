-- A schema as contracts see it: its columns and the positions of its key columns.
--     Shape      columns, key
--     IsSound s      1 to 64 columns with good names, each once; at least one key column, each of them once
use Rattle.std.specs.Prelude.{ℕ, ◌<◌, ◌≤◌, IsTrue, List, length, map, nat_eq}
use Rattle.std.specs.List.{All, IsDistinct}
use Rattle.std.specs.Cmp.Lexicographic.{pointwise}
use Rattle.ov_value.specs.declared.column.Column.{Column}
use Rattle.ov_value.specs.Naming.{is_column_name}

-- columns from the left; the key's positions among them, counted from 0, in the order in which they compare
pub record Shape : Type 0 where
  pub columns : List Column
  pub key : List ℕ

-- the names of the columns
abbrev pub names : List Column → List (List ℕ)
names columns = map (λ column. column.name) columns

pub record IsSound (schema : Shape) : Type 0 where
  pub some_column : 0 < length schema.columns
  pub few_columns : length schema.columns ≤ 64
  pub named : All (λ name. IsTrue (is_column_name name)) (names schema.columns)
  pub names_once : IsDistinct (pointwise nat_eq) (names schema.columns)
  pub some_key : 0 < length schema.key
  pub key_placed : All (λ place. place < length schema.columns) schema.key
  pub key_once : IsDistinct nat_eq schema.key
