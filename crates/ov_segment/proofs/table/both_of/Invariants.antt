use Rattle.std.proofs.Common.{◌≡◌, ◌++◌, take}
use Rattle.ov_segment.proofs.table.both_of.Given as goal

abbrev pub invariant-loop-column : goal.invariant-loop-column
invariant-loop-column l = l.all.items ≡ l.columns ++ take l.column-index l.added
