use Rattle.std.proofs.Common.{◌≡◌, map, take}
use Rattle.ov_value.specs.Making.{place_of}
use Rattle.ov_value.proofs.schema.places_of.Given as goal

abbrev pub invariant-loop-name : goal.invariant-loop-name
invariant-loop-name l = l.places.items ≡ map (place_of l.columns) (take l.name-index l.key)
