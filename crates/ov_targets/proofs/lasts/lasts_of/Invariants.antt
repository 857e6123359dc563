use Rattle.std.proofs.Common.{◌≡◌, length, map, take}
use Rattle.ov_targets.specs.Emptying.{AreLasts, place_in}
use Rattle.ov_targets.specs.Targets.{versions_in}
use Rattle.ov_targets.proofs.lasts.lasts_of.Given as goal

abbrev pub invariant-loop-at : goal.invariant-loop-at
invariant-loop-at l = record {
  long : length l.lasts.items ≡ l.limit;
  are : AreLasts (map versions_in (take l.at l.parts)) (place_in l.lasts.items);
}
