use Rattle.std.proofs.Common.{◌≡◌, take, length}
use Rattle.ov_lyre.specs.Parts.{lists_of}
use Rattle.ov_lyre.specs.Sides.{numbered, AreNumbered}
use Rattle.ov_lyre.proofs.sides.apart.Given as goal

abbrev pub invariant-loop-vid : goal.invariant-loop-vid
invariant-loop-vid l = record {
  above : l.above.items ≡ numbered l.numbers 0 (take l.vid-index l.part);
  long : length l.below.items ≡ l.count;
  below : AreNumbered l.count l.numbers (take l.vid-index l.part) (lists_of l.below.items);
}
