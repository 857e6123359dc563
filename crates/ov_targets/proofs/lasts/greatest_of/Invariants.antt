use Rattle.std.proofs.Common.{◌≡◌, drop}
use Rattle.ov_targets.specs.Emptying.{greater, greatest, place_in}
use Rattle.ov_targets.proofs.lasts.greatest_of.Given as goal

abbrev pub invariant-loop-vid : goal.invariant-loop-vid
invariant-loop-vid l = greater l.last (greatest (place_in l.lasts) (drop l.vid-index l.versions)) ≡ greatest (place_in l.lasts) l.versions
