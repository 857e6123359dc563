use Rattle.std.proofs.Common.{◌≡◌, drop}
use Rattle.ov_value.specs.Making.{is_among}
use Rattle.ov_value.proofs.schema.stands_in.Given as goal

abbrev pub invariant-loop-other : goal.invariant-loop-other
invariant-loop-other l = is_among l.name l.names ≡ is_among l.name (drop l.other-index l.names)
