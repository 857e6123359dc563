use Rattle.std.proofs.Common.{◌≡◌, drop}
use Rattle.ov_value.specs.Shapes.{names}
use Rattle.ov_value.specs.Making.{is_among}
use Rattle.ov_value.proofs.schema.has_name.Given as goal

abbrev pub invariant-loop-column : goal.invariant-loop-column
invariant-loop-column l = is_among l.name (names l.columns) ≡ is_among l.name (names (drop l.column-index l.columns))
