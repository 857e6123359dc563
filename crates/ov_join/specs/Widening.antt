-- Columns of a side among those of both.
--     named_by prefix column      the column with its name behind a prefix
use Rattle.std.specs.Prelude.{ℕ, List, ◌++◌}
use Rattle.ov_model.specs.Joins.{renamed}
use Rattle.ov_value.specs.declared.column.Column.{Column}

abbrev pub named_by : List ℕ → Column → Column
named_by prefix column = renamed (λ name. prefix ++ name) column
