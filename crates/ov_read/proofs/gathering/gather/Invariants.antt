use Rattle.std.proofs.Common.{◌≡◌, [], take}
use Rattle.ov_read.proofs.Keeping.{HasPassed}
use Rattle.ov_read.proofs.gathering.gather.Given as goal

abbrev pub invariant-loop-part : goal.invariant-loop-part
invariant-loop-part g l =
    HasPassed (g.H.Host.state l.fn.host) (g.H.Host.state l.host) l.d l.vids l.lists (take l.part-index l.parts) l.found l.held.items
    × (l.vids ≡ [] → g.H.Host.state l.host ≡ g.H.Host.state l.fn.host)
    × (l.found.records.columns ≡ l.d.schema.columns)
