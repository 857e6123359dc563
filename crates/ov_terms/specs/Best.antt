-- The best of values, one after another.
use Rattle.std.specs.Prelude.{Option, ◌||◌, if◌then◌else◌}
use Rattle.std.specs.declared.cmp.Ordering.{Ordering}
use Rattle.ov_model.specs.Answers.{is_below, is_null_cell}
use Rattle.ov_model.specs.declared.answer.Cell.{Cell}

-- the best so far or a value, where the value comes before it; NULL and nothing count as none
abbrev pub better : (Cell → Cell → Option Ordering) → Cell → Cell → Cell
better order best value = if is_null_cell value then best else if is_null_cell best || is_below (order value best) then value else best
