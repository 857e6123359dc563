use Rattle.std.proofs.Common.{◌≡◌, take}
use Rattle.ov_segment.specs.Segments.{segment_spelling}
use Rattle.ov_segment.proofs.writing.segment_bytes.Given as goal

abbrev pub invariant-loop-one : goal.invariant-loop-one
invariant-loop-one l = l.bytes.items ≡ segment_spelling (take l.one-index l.records)
