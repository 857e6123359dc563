use Rattle.std.proofs.Common.{arith}
use Rattle.ov_segment.specs.Segments.{record_bytes}
use Rattle.ov_segment.proofs.writing.record_len.Goals as goal

pub returns : goal.returns
unfolding record_bytes
returns c = omega (arith, c.saturating_add.ensures, c.row_len.ensures)
