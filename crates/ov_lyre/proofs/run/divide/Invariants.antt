use Rattle.std.proofs.Common.{◌≡◌, ◌+◌, ◌++◌, length}
use Rattle.std.specs.Vec.Iter.{into_iter_items}
use Rattle.ov_lyre.specs.Parts.{lists_of}
use Rattle.ov_lyre.specs.Runs.{pieces_of, waiting}
use Rattle.ov_lyre.proofs.run.divide.Given as goal

-- what is ahead comes behind what waits
abbrev pub invariant-loop-part : goal.invariant-loop-part
invariant-loop-part l = record {
  can : (goal.iterator-loop-part).can_next l.part-iterator;
  ends : (goal.iterator-loop-part).is_finite l.part-iterator;
  level : l.level + length (into_iter_items l.part-iterator) ≡ l.fn.level + length l.fn.sides.below.items;
  work : pieces_of l.run.work.items ++ waiting l.level (lists_of (into_iter_items l.part-iterator)) ≡ pieces_of l.initial.run.work.items ++ waiting l.fn.level (lists_of l.fn.sides.below.items);
  split : l.run.split ≡ l.initial.run.split;
}
