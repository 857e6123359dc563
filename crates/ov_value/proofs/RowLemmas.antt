use Rattle.std.proofs.Common.{◌≡◌, List, [], ◌∷◌, length, refl, arith}
use Rattle.ov_value.specs.declared.column.Column.{Column}
use Rattle.ov_value.specs.declared.value.Value.{Value}
use Rattle.ov_value.specs.Rows.{HasKinds}

-- a row has one value a column
pub length-HasKinds : (values : List Value) (columns : List Column) → HasKinds values columns → length values ≡ length columns
length-HasKinds [] [] h = refl
length-HasKinds [] (column ∷ columns) h = absurd h
length-HasKinds (value ∷ values) [] h = absurd h
length-HasKinds (value ∷ values) (column ∷ columns) h = omega (arith, length-HasKinds values columns h.1)
