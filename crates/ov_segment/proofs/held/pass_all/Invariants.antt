use Rattle.std.proofs.Common.{length}
use Rattle.ov_segment.specs.Keeping.{Passes}
use Rattle.ov_segment.proofs.held.pass_all.Given as goal

abbrev pub invariant-loop-rid : goal.invariant-loop-rid
invariant-loop-rid l =
    Passes l.schema l.before l.bytes (record { inside = l.ahead.inside; edges = l.ahead.edges }) l.initial.rids l.initial.table l.last l.rest (record { inside = l.walk.inside; edges = l.walk.edges }) l.rids l.table

abbrev pub decreases-loop-rid : goal.decreases-loop-rid
decreases-loop-rid l = length l.rest
