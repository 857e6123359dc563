use Rattle.std.proofs.Common.{◌≡◌, ◌+◌, length, map, take}
use Rattle.std.specs.List.{flat_map}
use Rattle.ov_join.specs.Partnering.{partners_in, told}
use Rattle.ov_join.proofs.matching.partners.Given as goal

-- the partners of the left rows before, and how many more there may be
abbrev pub invariant-loop-place : goal.invariant-loop-place
invariant-loop-place l =
    (map told l.found.items ≡ map (λ place. (place, partners_in l.left l.right l.sorted place)) (take l.place-index l.left.places.now))
    × (l.room + length (flat_map (partners_in l.left l.right l.sorted) (take l.place-index l.left.places.now)) ≡ 1000000)
