use Rattle.std.proofs.Common.{◌≡◌, drop}
use Rattle.std.specs.List.{list_any}
use Rattle.ov_model.specs.Users.{is_reserved}
use Rattle.ov_users.proofs.denying.names_one_reserved.Given as goal

abbrev pub invariant-loop-name : goal.invariant-loop-name
invariant-loop-name l = list_any is_reserved l.names ≡ list_any is_reserved (drop l.name-index l.names)
