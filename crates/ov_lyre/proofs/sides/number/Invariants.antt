use Rattle.std.proofs.Common.{◌≤◌, drop, length}
use Rattle.ov_lyre.specs.Sums.{Stands}
use Rattle.ov_lyre.specs.Sides.{number_of}
use Rattle.ov_lyre.proofs.sides.number.Given as goal

abbrev pub invariant-loop-at : goal.invariant-loop-at
invariant-loop-at l = Stands (number_of (drop l.at l.cuts)) l.part l.numbers × (l.at ≤ length l.cuts)

abbrev pub decreases-loop-at : goal.decreases-loop-at
decreases-loop-at l = l.at
