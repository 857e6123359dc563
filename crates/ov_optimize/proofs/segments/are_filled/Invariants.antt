use Rattle.std.proofs.Common.{take}
use Rattle.ov_optimize.specs.Reading.{AreFilled}
use Rattle.ov_optimize.proofs.segments.are_filled.Given as goal

abbrev pub invariant-loop-rids : goal.invariant-loop-rids
invariant-loop-rids l = AreFilled (take l.rids-index l.sets)
