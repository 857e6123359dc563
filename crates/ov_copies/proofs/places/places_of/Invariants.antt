use Rattle.std.proofs.Common.{◌≡◌, ◌+◌, length}
use Rattle.ov_read.proofs.Placing.{PlacesTo}
use Rattle.ov_copies.proofs.places.places_of.Given as goal

abbrev pub invariant-loop-place : goal.invariant-loop-place
invariant-loop-place l = record {
  count : length l.places.items ≡ l.count + 1;
  are : PlacesTo l.place l.versions l.places.items;
}
