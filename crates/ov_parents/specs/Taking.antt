-- Records taken out of a scan.
--     StandAt records pick found      at these positions stand these records
use Rattle.std.specs.Prelude.{◌≡◌, ℕ, List, map, Some, slice_get}
use Rattle.ov_segment.specs.declared.numbered.Record.{Record}

abbrev pub StandAt : List Record → List ℕ → List Record → Type 0
StandAt records pick found = map (slice_get records) pick ≡ map Some found
