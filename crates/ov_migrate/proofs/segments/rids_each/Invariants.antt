use Rattle.std.proofs.Common.{take}
use Rattle.ov_migrate.proofs.Kept.{HasSets}
use Rattle.ov_migrate.proofs.segments.rids_each.Given as goal

abbrev pub invariant-loop-segment : goal.invariant-loop-segment
invariant-loop-segment g l = HasSets l.schema (g.H.Host.state l.fn.host) (g.H.Host.state l.host) (take l.segment-index l.segments) l.sets.items
