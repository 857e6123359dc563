use Rattle.std.proofs.Common.{◌≡◌, take}
use Rattle.ov_users.proofs.registry.with_row.Given as goal

abbrev pub invariant-loop-old : goal.invariant-loop-old
invariant-loop-old l = l.made.items ≡ take l.old-index l.rows
