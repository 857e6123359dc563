-- A number and a cell's number, if it has an int.
use Rattle.std.specs.Prelude.{ℤ}
use Rattle.ov_model.specs.Answers.{plus}
use Rattle.ov_model.specs.declared.answer.Cell.{Cell}
use Rattle.ov_model.specs.declared.answer.Cell.TheVariants as cell

abbrev pub plus_cell : ℤ → Cell → ℤ
plus_cell n (cell.Value v) = plus n v
plus_cell n _ = n
