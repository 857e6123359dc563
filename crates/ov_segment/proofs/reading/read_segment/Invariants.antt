use Rattle.std.proofs.Common.{length}
use Rattle.ov_segment.proofs.SegmentLemmas.{HasRead}
use Rattle.ov_segment.proofs.reading.read_segment.Given as goal

abbrev pub invariant-loop-rest : goal.invariant-loop-rest
invariant-loop-rest l = HasRead l.schema l.bytes l.records.items l.last l.rest

abbrev pub decreases-loop-rest : goal.decreases-loop-rest
decreases-loop-rest l = length l.rest
