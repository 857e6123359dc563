use Rattle.std.proofs.Common.{◌≡◌, drop}
use Rattle.std.specs.List.{position_from}
use Rattle.ov_model.specs.Registry.{find, is_table}
use Rattle.ov_users.proofs.registry.find.Given as goal

abbrev pub invariant-loop-row : goal.invariant-loop-row
invariant-loop-row l =
    (l.place ≡ l.row-index)
    × (find l.rows l.owner l.name ≡ position_from (is_table l.owner l.name) l.row-index (drop l.row-index l.rows))
