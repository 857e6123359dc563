use Rattle.std.proofs.Common.{◌≡◌, map, take}
use Rattle.ov_lyre.specs.Parts.{lists_of}
use Rattle.ov_budget.specs.Sizes.{part_of}
use Rattle.ov_budget.proofs.offers.parts_of.Given as goal

abbrev pub invariant-loop-one : goal.invariant-loop-one
invariant-loop-one l = lists_of l.parts.items ≡ map part_of (take l.one-index l.sized)
