use Rattle.std.proofs.Common.{◌∙◌}
use Rattle.ov_journal.proofs.NewHeader.{second_stops, third_stops, made}
use Rattle.ov_journal.proofs.making.make.Goals as goal

pub returns-in_err-write_synced-clause-stops : goal.returns-in_err-write_synced-clause-stops
returns-in_err-write_synced-clause-stops g c rest =
    second_stops (g.H.Host.state c.args.host.now) (g.H.Host.state c.close.new.host) (g.H.Host.state c.write_synced.new.host)
    (c.in_ok-close.ensures.stops rest) (c.in_ok-close.ensures.same rest) (c.in_ok-close.ensures.done rest) c.in_err-write_synced.ensures.stops

pub returns-in_err-write_synced-2-clause-stops : goal.returns-in_err-write_synced-2-clause-stops
returns-in_err-write_synced-2-clause-stops g c rest =
    third_stops (g.H.Host.state c.args.host.now) (g.H.Host.state c.close.new.host) (g.H.Host.state c.write_synced.new.host)
    (c.in_ok-close.ensures.stops rest) (c.in_ok-close.ensures.same rest) (c.in_ok-close.ensures.done rest)
    c.in_ok-write_synced.ensures.stops c.in_ok-write_synced.ensures.passes.told (c.in_ok-write_synced.ensures.done (c.in_ok-close.ensures.done rest).told)
    (g.H.Host.state c.write_synced-2.new.host) c.in_err-write_synced-2.ensures.stops

pub returns-clause-stops : goal.returns-clause-stops
returns-clause-stops g c rest =
    third_stops (g.H.Host.state c.args.host.now) (g.H.Host.state c.close.new.host) (g.H.Host.state c.write_synced.new.host)
    (c.in_ok-close.ensures.stops rest) (c.in_ok-close.ensures.same rest) (c.in_ok-close.ensures.done rest)
    c.in_ok-write_synced.ensures.stops c.in_ok-write_synced.ensures.passes.told (c.in_ok-write_synced.ensures.done (c.in_ok-close.ensures.done rest).told)
    (g.H.Host.state c.write_synced-2.new.host) c.in_ok-write_synced-2.ensures.stops

pub returns-clause-done : goal.returns-clause-done
returns-clause-done g c rest =
    made (g.H.Host.state c.args.host.now) (g.H.Host.state c.close.new.host) (g.H.Host.state c.write_synced.new.host)
    (c.in_ok-close.ensures.stops rest) (c.in_ok-close.ensures.same rest) (c.in_ok-close.ensures.done rest)
    c.in_ok-write_synced.ensures.stops c.in_ok-write_synced.ensures.passes.told (c.in_ok-write_synced.ensures.done (c.in_ok-close.ensures.done rest).told)
    (g.H.Host.state c.write_synced-2.new.host) c.in_ok-write_synced-2.ensures.passes.told
    (c.in_ok-write_synced-2.ensures.done (c.in_ok-write_synced.ensures.passes.told ∙ (c.in_ok-close.ensures.done rest).told))
