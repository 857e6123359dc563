use Rattle.std.proofs.Common.{◌≡◌, ◌-◌, length}
use Rattle.ov_fetch.proofs.Running.{KeepsWanted}
use Rattle.ov_fetch.proofs.cursor.Cursor.keep_wanted.Given as goal

abbrev pub invariant-loop-rids : goal.invariant-loop-rids
invariant-loop-rids g l = record {
  keeps : KeepsWanted l.schema (g.H.Host.state l.fn.host) (g.H.Host.state l.host) l.fn.self.extent l.self l.wanted (record { inside = l.ahead.inside; edges = l.ahead.edges }) l.fn.kept l.kept l.rids;
  room : length l.piece ≡ 61440;
}

abbrev pub decreases-loop-rids : goal.decreases-loop-rids
decreases-loop-rids g l = l.self.extent.bytes - l.self.at
