use Rattle.std.proofs.Common.{◌≡◌, drop}
use Rattle.ov_model.specs.Registry.{user_row, users_schema}
use Rattle.ov_model.specs.Merge.{has_key}
use Rattle.ov_users.proofs.registry.is_user.Given as goal

abbrev pub invariant-loop-row : goal.invariant-loop-row
invariant-loop-row l = has_key users_schema l.rows (user_row l.name) ≡ has_key users_schema (drop l.row-index l.rows) (user_row l.name)
