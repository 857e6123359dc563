use Rattle.std.proofs.Common.{◌≡◌, ◌+◌, drop}
use Rattle.ov_value.specs.Making.{place_of}
use Rattle.ov_value.proofs.schema.place_of.Given as goal

abbrev pub invariant-loop-i : goal.invariant-loop-i
invariant-loop-i l = place_of l.columns l.name ≡ l.i + place_of (drop l.i l.columns) l.name
