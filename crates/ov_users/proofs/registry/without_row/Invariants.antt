use Rattle.std.proofs.Common.{◌≡◌, ◌++◌, drop}
use Rattle.ov_model.specs.Registry.{without_row}
use Rattle.ov_users.proofs.registry.without_row.Given as goal

abbrev pub invariant-loop-row : goal.invariant-loop-row
invariant-loop-row l = without_row l.rows l.owner l.name ≡ l.left.items ++ without_row (drop l.row-index l.rows) l.owner l.name
