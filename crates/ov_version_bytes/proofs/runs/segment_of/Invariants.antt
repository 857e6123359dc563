use Rattle.std.proofs.Common.{◌≡◌, take}
use Rattle.ov_segment.specs.Segments.{segment_spelling}
use Rattle.ov_version_bytes.specs.Positions.{records_at}
use Rattle.ov_version_bytes.proofs.runs.segment_of.Given as goal

abbrev pub invariant-loop-one : goal.invariant-loop-one
invariant-loop-one l = l.bytes.items ≡ segment_spelling (records_at l.rows (take l.one-index l.records))
