-- What a cell that lies in bytes is of a row.
use Rattle.ov_value.specs.declared.cell.CellRef.{CellRef}
use Rattle.ov_value.specs.declared.cell.CellRef.TheVariants as cell
use Rattle.ov_value.specs.declared.value.Value.{Value}
use Rattle.ov_value.specs.declared.value.Value.TheVariants.{Int, Text, Flag, Null}

abbrev pub value_of : CellRef → Value
value_of (cell.Int number) = Int number
value_of (cell.Text text) = Text text.now
value_of (cell.Flag flag) = Flag flag
value_of cell.Null = Null
