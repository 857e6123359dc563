use Rattle.std.proofs.Common.{◌≡◌, ◌++◌, map, take}
use Rattle.ov_join.specs.Widening.{named_by}
use Rattle.ov_join.proofs.wide.push_named.Given as goal

abbrev pub invariant-loop-column : goal.invariant-loop-column
invariant-loop-column l = l.wide.items ≡ l.fn.wide.items ++ map (named_by l.prefix) (take l.column-index l.columns)
