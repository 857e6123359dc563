use Rattle.ov_rows.specs.Keyed.{by_key}
use Rattle.ov_rows.proofs.Standing.{Climbs}
use Rattle.ov_rows.proofs.repeats.are_rising.Given as goal

abbrev pub invariant-loop-i : goal.invariant-loop-i
invariant-loop-i l = Climbs (by_key l.schema l.rows) l.keyed l.i
