use Rattle.std.proofs.Common.{◌≡◌, take}
use Rattle.ov_fetch.specs.Scans.{AllStand}
use Rattle.ov_read.specs.Picking.{places_of as places_of_rids}
use Rattle.ov_read.proofs.Walking.{SaysFrom}
use Rattle.ov_read.proofs.ordering.places_of.Given as goal

abbrev pub invariant-loop-place : goal.invariant-loop-place
invariant-loop-place l =
    (l.places.items ≡ places_of_rids (take l.place l.records.records) l.rids) × AllStand l.records.records l.places.items
    × SaysFrom (record { inside = l.ahead.inside; edges = l.ahead.edges }) l.rids l.records.records l.place
