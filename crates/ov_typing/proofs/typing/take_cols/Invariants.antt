use Rattle.std.proofs.Common.{◌≡◌, List, drop}
use Rattle.ov_value.specs.declared.column.Kind.{Kind}
use Rattle.ov_model.specs.Kinds.{cols_kinds}
use Rattle.ov_typing.proofs.Lists.{behind}
use Rattle.ov_typing.proofs.typing.take_cols.Given as goal

-- the columns before have kinds, and behind them come those of the others
abbrev pub invariant-loop-col : goal.invariant-loop-col
invariant-loop-col l = (kinds : List Kind) × (cols_kinds l.place.schema l.cols ≡ behind kinds (cols_kinds l.place.schema (drop l.col-index l.cols)))
