use Rattle.std.proofs.Common.{arith}
use Rattle.ov_journal.proofs.NewHeader.{unmade_stops, closing_stops}
use Rattle.ov_journal.proofs.making.close.Goals as goal

pub returns-in_err-write_synced-clause-stops : goal.returns-in_err-write_synced-clause-stops
returns-in_err-write_synced-clause-stops g c rest =
    closing_stops (g.H.Host.state c.args.host.now) (g.H.Host.state c.write_synced.new.host) (λ told. omega (arith, (c.requires told).0)) c.in_err-write_synced.ensures.stops rest

pub returns-in_ok-write_synced-clause-stops : goal.returns-in_ok-write_synced-clause-stops
returns-in_ok-write_synced-clause-stops g c rest =
    closing_stops (g.H.Host.state c.args.host.now) (g.H.Host.state c.write_synced.new.host) (λ told. omega (arith, (c.requires told).0)) c.in_ok-write_synced.ensures.stops rest

pub returns-else-size-lt39-clause-stops : goal.returns-else-size-lt39-clause-stops
returns-else-size-lt39-clause-stops g c rest = unmade_stops (g.H.Host.state c.args.host.now) (λ told. (c.requires told).1) rest
