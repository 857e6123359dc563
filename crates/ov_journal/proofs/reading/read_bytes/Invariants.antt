use Rattle.std.proofs.Common.{◌-◌, vec_len}
use Rattle.ov_journal.proofs.Pieces.{IsReading}
use Rattle.ov_journal.proofs.reading.read_bytes.Given as goal

abbrev pub invariant-loop-piece : goal.invariant-loop-piece
invariant-loop-piece g l =
    IsReading (g.H.Host.state l.fn.host) (g.H.Host.state l.host) l.at l.count (vec_len l.bytes) (vec_len l.piece) l.bytes.items

abbrev pub decreases-loop-piece : goal.decreases-loop-piece
decreases-loop-piece g l = l.count - vec_len l.bytes
