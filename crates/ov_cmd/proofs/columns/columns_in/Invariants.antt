use Rattle.std.proofs.Common.{◌≡◌, ◌+◌, map, drop}
use Rattle.ov_model.specs.Values.{columns_from}
use Rattle.ov_cmd.proofs.Schemas.{behind}
use Rattle.ov_cmd.proofs.columns.columns_in.Given as goal

abbrev pub invariant-loop-i : goal.invariant-loop-i
invariant-loop-i l =
    columns_from 1 (map (λ x. x.now) l.items) ≡ behind l.columns.items (columns_from (l.i + 1) (map (λ x. x.now) (drop l.i l.items)))
