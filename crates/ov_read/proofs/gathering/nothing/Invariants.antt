use Rattle.std.proofs.Common.{◌≤◌, ◌-◌, length}
use Rattle.ov_read.proofs.gathering.nothing.Given as goal

abbrev pub invariant-loop-picks : goal.invariant-loop-picks
invariant-loop-picks l = length l.picks.items ≤ l.count

abbrev pub decreases-loop-picks : goal.decreases-loop-picks
decreases-loop-picks l = l.count - length l.picks.items
