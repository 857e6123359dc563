use Rattle.std.proofs.Common.{take}
use Rattle.ov_lyre.specs.Sums.{Stands}
use Rattle.ov_lyre.proofs.sides.clear.Given as goal

abbrev pub invariant-loop-vid : goal.invariant-loop-vid
invariant-loop-vid l = Stands (λ _. 0) (take l.vid-index l.part) l.numbers
