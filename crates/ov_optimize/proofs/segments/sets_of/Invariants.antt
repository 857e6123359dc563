use Rattle.std.proofs.Common.{take}
use Rattle.ov_optimize.proofs.SegmentSets.{HasSets}
use Rattle.ov_optimize.proofs.segments.sets_of.Given as goal

abbrev pub invariant-loop-segment : goal.invariant-loop-segment
invariant-loop-segment g l = HasSets (g.H.Host.state l.fn.host) (g.H.Host.state l.host) l.schema (take l.segment-index l.segments) l.sets.items
