use Rattle.std.proofs.Common.{◌≡◌, ◌++◌, drop}
use Rattle.std.specs.Prelude.{filter, map}
use Rattle.ov_model.specs.Deed.{is_own, table_shown}
use Rattle.ov_staging.proofs.staged.own_lines.Given as goal

abbrev pub invariant-loop-row : goal.invariant-loop-row
invariant-loop-row l = map table_shown (filter (is_own l.user) l.rows) ≡ l.lines.items ++ map table_shown (filter (is_own l.user) (drop l.row-index l.rows))
