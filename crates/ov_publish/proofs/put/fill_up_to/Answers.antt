use Rattle.std.proofs.Common.{rules, true, false, []}
use Rattle.ov_publish.proofs.Growing.{look_puts}
use Rattle.ov_publish.proofs.Filling.{filling_start, filling_puts, filling_more}
use Rattle.ov_publish.proofs.put.fill_up_to.Goals as goal

pub returns-in_err-end-clause-puts : goal.returns-in_err-end-clause-puts
returns-in_err-end-clause-puts g c =
    look_puts [] (g.H.Host.state c.args.host.now) (g.H.Host.state c.len.new.self) false c.in_err-end.ensures.call c.in_err-end.ensures.fetched

pub loop-end-init : goal.loop-end-init
loop-end-init g c =
    filling_start c.args.at c.in_ok-end.end (g.H.Host.state c.args.host.now) (g.H.Host.state c.len.new.self)
    (look_puts [] (g.H.Host.state c.args.host.now) (g.H.Host.state c.len.new.self) true c.in_ok-end.ensures.call c.in_ok-end.ensures.fetched)
    c.in_ok-end.ensures.call.plays c.in_ok-end.ensures.len

pub returns-in_err-write_zeros-clause-puts : goal.returns-in_err-write_zeros-clause-puts
returns-in_err-write_zeros-clause-puts g c =
    filling_puts c.args.at c.loop-end.end c.min-count.result (g.H.Host.state c.args.host.now) (g.H.Host.state c.loop-end.host) (g.H.Host.state c.write_zeros.new.host) c.loop-end.invariant false c.in_err-write_zeros.ensures.call c.in_err-write_zeros.ensures.fetched

pub loop-end-preserved : goal.loop-end-preserved
loop-end-preserved g c =
    filling_more c.args.at c.loop-end.end c.min-count.result (g.H.Host.state c.args.host.now) (g.H.Host.state c.loop-end.host) (g.H.Host.state c.write_zeros.new.host) c.loop-end.invariant (search rules) c.in_ok-write_zeros.ensures.call c.in_ok-write_zeros.ensures.fetched
