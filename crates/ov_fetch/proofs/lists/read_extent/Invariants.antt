use Rattle.std.proofs.Common.{◌≡◌, ◌-◌, min, vec_len}
use Rattle.ov_fetch.proofs.Pieces.{IsReading}
use Rattle.ov_fetch.proofs.lists.read_extent.Given as goal

abbrev pub invariant-loop-extent : goal.invariant-loop-extent
invariant-loop-extent g l = record {
  reading : IsReading (g.H.Host.state l.fn.host) (g.H.Host.state l.host) l.extent (vec_len l.bytes) l.bytes.items;
  room : vec_len l.piece ≡ min 65536 l.extent.bytes;
}

abbrev pub decreases-loop-extent : goal.decreases-loop-extent
decreases-loop-extent g l = l.extent.bytes - vec_len l.bytes
