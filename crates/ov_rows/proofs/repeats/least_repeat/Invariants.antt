use Rattle.std.proofs.Common.{◌≡◌, ◌-◌, drop, None}
use Rattle.ov_rows.specs.FileRows.{least_repeat, lines_at}
use Rattle.ov_rows.proofs.repeats.least_repeat.Given as goal

abbrev pub invariant-loop-i : goal.invariant-loop-i
invariant-loop-i l = least_repeat l.schema None (lines_at l.rows l.order) ≡ least_repeat l.schema l.least (drop (l.i - 1) (lines_at l.rows l.order))
