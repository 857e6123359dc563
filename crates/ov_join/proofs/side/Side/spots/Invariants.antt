use Rattle.std.proofs.Common.{◌≡◌, take}
use Rattle.ov_terms.specs.Standing.{spots_in}
use Rattle.ov_join.proofs.side.Side.spots.Given as goal

abbrev pub invariant-loop-place : goal.invariant-loop-place
invariant-loop-place l = l.made.items ≡ spots_in 0 (take l.place-index l.self.places.now)
