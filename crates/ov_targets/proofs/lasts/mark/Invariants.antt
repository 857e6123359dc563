use Rattle.std.proofs.Common.{◌≡◌, length, take}
use Rattle.ov_targets.specs.Emptying.{AreMarked}
use Rattle.ov_targets.proofs.lasts.mark.Given as goal

abbrev pub invariant-loop-vid : goal.invariant-loop-vid
invariant-loop-vid l = record {
  marked : AreMarked (take l.vid-index l.versions) l.place l.fn.lasts.items l.lasts.items;
  long : length l.lasts.items ≡ length l.fn.lasts.items;
}
