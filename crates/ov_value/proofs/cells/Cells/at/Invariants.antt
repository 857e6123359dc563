use Rattle.std.proofs.Common.{◌≡◌, length}
use Rattle.ov_value.specs.Rows.{value_at}
use Rattle.ov_value.specs.Decoding.{decoded, CanRead}
use Rattle.ov_value.proofs.cells.Cells.at.Given as goal

abbrev pub invariant-loop-column : goal.invariant-loop-column
invariant-loop-column l = record {
  can : CanRead l.columns l.nulls l.rest;
  value_is : value_at l.self l.place ≡ value_at (decoded l.columns l.nulls l.rest) l.before;
}

abbrev pub decreases-loop-column : goal.decreases-loop-column
decreases-loop-column l = length l.columns
