use Rattle.std.proofs.Common.{◌≡◌, ◌∷◌, [], map, take}
use Rattle.ov_qrun.proofs.groups.alone.Given as goal

abbrev pub invariant-loop-spot : goal.invariant-loop-spot
invariant-loop-spot l = map (λ group. group.now) l.found.items ≡ map (λ spot. spot ∷ []) (take l.spot-index l.spots)
