use Rattle.ov_publish.proofs.Adding.{bare_stops, bare_done}
use Rattle.ov_publish.proofs.bare.add_bare.Goals as goal

pub returns-in_err-append-clause-stops : goal.returns-in_err-append-clause-stops
returns-in_err-append-clause-stops g c ps live at free =
    bare_stops ps c.args.framed.now c.args.journal.now (g.H.Host.state c.args.host.now) (g.H.Host.state c.append.new.host) at live free c.in_err-append.ensures.stops

pub returns-clause-stops : goal.returns-clause-stops
returns-clause-stops g c ps live at free =
    bare_stops ps c.args.framed.now c.args.journal.now (g.H.Host.state c.args.host.now) (g.H.Host.state c.append.new.host) at live free c.in_ok-append.ensures.stops

pub returns-clause-done : goal.returns-clause-done
returns-clause-done g c ps at rest =
    bare_done ps c.args.framed.now c.args.journal.now (g.H.Host.state c.args.host.now) (g.H.Host.state c.append.new.host) at c.append.new.self rest c.in_ok-append.ensures.done c.in_ok-append.ensures.same
