-- Columns that are read one after another.
use Rattle.std.proofs.Common.{List, ◌++◌}
use Rattle.std.specs.Prelude.{Result, Ok, Err}
use Rattle.ov_value.specs.declared.column.Column.{Column}
use Rattle.ov_model.specs.declared.refusal.Refusal.{Refusal}

-- these columns, and then those
abbrev pub behind : List Column → Result (List Column) Refusal → Result (List Column) Refusal
behind columns (Ok more) = Ok (columns ++ more)
behind columns (Err refusal) = Err refusal
