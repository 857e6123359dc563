-- What is seen of a term, as the cell that it is.
use Rattle.ov_value.specs.Cells.{value_of}
use Rattle.ov_model.specs.declared.answer.Cell.{Cell}
use Rattle.ov_model.specs.declared.answer.Cell.TheVariants as cell
use Rattle.ov_terms.specs.declared.seen.Seen.{Seen}
use Rattle.ov_terms.specs.declared.seen.Seen.TheVariants as seen

abbrev pub cell_of : Seen → Cell
cell_of (seen.Cell c) = cell.Value (value_of c)
cell_of (seen.Sum n) = cell.Sum n
cell_of seen.Nothing = cell.Nothing
