use Rattle.std.proofs.Common.{◌≡◌, ◌≤◌, ◌+◌, ◌++◌, ◌^◌}
use Rattle.ov_member.specs.Lists.{run}
use Rattle.ov_migrate.proofs.picking.push_run.Given as goal

abbrev pub invariant-loop-at : goal.invariant-loop-at
invariant-loop-at l = l.first + (l.skipped + l.count) ≤ 2 ^ 31 + 1 → l.found.items ≡ l.fn.found.items ++ run (l.first + l.skipped) l.at
