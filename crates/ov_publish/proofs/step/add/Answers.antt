use Rattle.ov_publish.proofs.Adding.{none_stops, first_stops, both_stops, both_done}
use Rattle.ov_publish.proofs.step.add.Goals as goal

pub returns-then-not-fits-clause-stops : goal.returns-then-not-fits-clause-stops
returns-then-not-fits-clause-stops g c ps live at free =
    none_stops c.args.list c.args.segment ps c.args.framed.now c.args.journal.now (g.H.Host.state c.args.host.now) at live free

pub returns-in_err-put_both-clause-stops : goal.returns-in_err-put_both-clause-stops
returns-in_err-put_both-clause-stops g c ps live at free =
    first_stops c.args.list c.args.segment ps c.args.framed.now c.args.journal.now (g.H.Host.state c.args.host.now) at live free (g.H.Host.state c.put_both.new.host) c.in_err-put_both.ensures.stops

pub returns-in_err-append-clause-stops : goal.returns-in_err-append-clause-stops
returns-in_err-append-clause-stops g c ps live at free =
    both_stops c.args.list c.args.segment ps c.args.framed.now c.args.journal.now (g.H.Host.state c.args.host.now) at live free (g.H.Host.state c.put_both.new.host) c.in_ok-put_both.ensures.passes.told (c.in_ok-put_both.ensures.done at.told) (g.H.Host.state c.append.new.host) c.in_ok-put_both.ensures.stops c.in_err-append.ensures.stops

pub returns-clause-stops : goal.returns-clause-stops
returns-clause-stops g c ps live at free =
    both_stops c.args.list c.args.segment ps c.args.framed.now c.args.journal.now (g.H.Host.state c.args.host.now) at live free (g.H.Host.state c.put_both.new.host) c.in_ok-put_both.ensures.passes.told (c.in_ok-put_both.ensures.done at.told) (g.H.Host.state c.append.new.host) c.in_ok-put_both.ensures.stops c.in_ok-append.ensures.stops

pub returns-clause-done : goal.returns-clause-done
returns-clause-done g c ps at =
    both_done c.args.list c.args.segment ps c.args.framed.now c.args.journal.now (g.H.Host.state c.args.host.now) at (g.H.Host.state c.put_both.new.host) c.in_ok-put_both.ensures.passes.told (c.in_ok-put_both.ensures.done at.told) (g.H.Host.state c.append.new.host) c.append.new.self c.in_ok-append.ensures.done c.in_ok-append.ensures.same
