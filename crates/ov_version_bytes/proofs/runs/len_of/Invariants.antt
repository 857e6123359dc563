use Rattle.std.proofs.Common.{◌≡◌, length, take, min}
use Rattle.ov_segment.specs.Segments.{segment_spelling}
use Rattle.ov_version_bytes.specs.Positions.{records_at}
use Rattle.ov_version_bytes.proofs.runs.len_of.Given as goal

abbrev pub invariant-loop-one : goal.invariant-loop-one
invariant-loop-one l = l.len ≡ min (length (segment_spelling (records_at l.rows (take l.one-index l.records)))) 0xffff_ffff_ffff_ffff
