use Rattle.std.proofs.Common.{◌≡◌, ◌++◌, take}
use Rattle.ov_value.proofs.schema.append_copies.Given as goal

abbrev pub invariant-loop-column : goal.invariant-loop-column
invariant-loop-column l = l.copies.items ≡ l.initial.copies.items ++ take l.column-index l.columns
