use Rattle.std.proofs.Common.{◌≡◌, map, take}
use Rattle.ov_qrun.specs.Keys.{cells_in, keys_for, pairs_of}
use Rattle.ov_qrun.proofs.places.places_of.Given as goal

abbrev pub invariant-loop-group : goal.invariant-loop-group
invariant-loop-group l =
    (map (λ place. place.group.now) l.places.items ≡ map (λ group. group.now) (take l.group-index l.groups))
    × (map cells_in l.places.items ≡ map (λ place. keys_for l.order (pairs_of l.table place)) l.places.items)
