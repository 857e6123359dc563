use Rattle.std.proofs.Common.{◌≡◌, length, map}
use Rattle.ov_targets.specs.Targets.{versions_in}
use Rattle.ov_targets.proofs.Said.{AreFirst}
use Rattle.ov_targets.proofs.targets.targets_of.Given as goal

abbrev pub invariant-loop-at : goal.invariant-loop-at
invariant-loop-at l = record {
  long : length l.targets.items ≡ l.at;
  first : AreFirst l.lists l.fn.partitions.items (map versions_in l.parts) l.targets.items;
}
