use Rattle.std.proofs.Common.{length, ◌-◌}
use Rattle.ov_value.proofs.Decoded.{Passed}
use Rattle.ov_value.proofs.walk.walk.Given as goal

abbrev pub invariant-loop-passed : goal.invariant-loop-passed
invariant-loop-passed l = Passed l.columns l.nulls l.bytes l.passed l.marks l.rest

abbrev pub decreases-loop-passed : goal.decreases-loop-passed
decreases-loop-passed l = length l.columns - l.passed
