use Rattle.std.proofs.Common.{◌≡◌, ◌-◌, true}
use Rattle.ov_host.specs.declared.area.Area.TheVariants.{Journal}
use Rattle.ov_host.specs.Host.{bytes_of}
use Rattle.ov_journal.specs.Ahead.{IsOf}
use Rattle.ov_journal.proofs.ReadingRecords.{IsAlong}
use Rattle.ov_journal.proofs.reading.read_records.Given as goal

abbrev pub invariant-loop-ahead : goal.invariant-loop-ahead
invariant-loop-ahead g l =
    IsAlong (g.H.Host.state l.fn.host) (g.H.Host.state l.host) l.start l.at l.end l.payloads.items
    × ((g.H.Host.state l.host).tells ≡ true → IsOf (bytes_of Journal (g.H.Host.state l.host)) l.ahead)

abbrev pub decreases-loop-ahead : goal.decreases-loop-ahead
decreases-loop-ahead g l = l.end - l.at
