use Rattle.ov_value.specs.Rows.{key_cmp}
use Rattle.ov_rows.proofs.Standing.{Climbs}
use Rattle.ov_registry.proofs.rows.are_rising.Given as goal

abbrev pub invariant-loop-i : goal.invariant-loop-i
invariant-loop-i l = Climbs (key_cmp l.schema) l.rows l.i
