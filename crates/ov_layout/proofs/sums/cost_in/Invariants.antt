use Rattle.std.proofs.Common.{◌≡◌, take}
use Rattle.ov_layout.specs.Parts.{cost_of}
use Rattle.ov_layout.proofs.sums.cost_in.Given as goal

abbrev pub invariant-loop-part : goal.invariant-loop-part
invariant-loop-part l = l.cost ≡ cost_of (take l.part-index l.parts)
