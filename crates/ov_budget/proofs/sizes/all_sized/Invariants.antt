use Rattle.std.proofs.Common.{◌≡◌, All, map}
use Rattle.ov_lyre.specs.Parts.{lists_of}
use Rattle.ov_budget.specs.Sizes.{IsSized, part_of}
use Rattle.ov_budget.proofs.sizes.all_sized.Given as goal

abbrev pub invariant-loop-part : goal.invariant-loop-part
invariant-loop-part l = record {
  parts : map part_of l.sized.items ≡ lists_of l.yielded;
  sizes : All (IsSized l.lists) l.sized.items;
}
