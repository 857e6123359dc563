use Rattle.ov_journal.specs.Held.{IsUnmadeOrNew}
use Rattle.ov_journal.proofs.Loading.{looked_stops}
use Rattle.ov_journal.proofs.NewHeader.{unmade_stops}
use Rattle.ov_journal.proofs.opening.begin.Goals as goal

pub returns-in_err-len-clause-stops : goal.returns-in_err-len-clause-stops
returns-in_err-len-clause-stops g c rest =
    looked_stops (g.H.Host.state c.args.host.now).tape (g.H.Host.state c.args.host.now).tape (g.H.Host.state c.len.new.self).tape (IsUnmadeOrNew (g.H.Host.state c.args.host.now).tape.disk)
    (c.in_err-len.ensures.call.plays rest.told) (unmade_stops (g.H.Host.state c.args.host.now) (λ told. (c.requires told).1) rest)

pub returns-then-branch-ne0-clause-stops : goal.returns-then-branch-ne0-clause-stops
returns-then-branch-ne0-clause-stops g c rest =
    looked_stops (g.H.Host.state c.args.host.now).tape (g.H.Host.state c.args.host.now).tape (g.H.Host.state c.len.new.self).tape (IsUnmadeOrNew (g.H.Host.state c.args.host.now).tape.disk)
    (c.in_ok-len.ensures.call.plays rest.told) (unmade_stops (g.H.Host.state c.args.host.now) (λ told. (c.requires told).1) rest)
