use Rattle.std.proofs.Common.{◌≡◌, take}
use Rattle.ov_segment.specs.Segments.{segment_spelling}
use Rattle.ov_copies.proofs.segment.segment_of.Given as goal

abbrev pub invariant-loop-i : goal.invariant-loop-i
invariant-loop-i l = l.bytes.items ≡ segment_spelling (take l.i l.records.records)
