use Rattle.ov_registry.specs.Last.{name_of}
use Rattle.ov_store.specs.Scanning.{set_in}
use Rattle.ov_staging.proofs.Ended.{undamaged_end, unread_end, unread_ends}
use Rattle.ov_staging.proofs.reading.rows_of.Goals as goal

pub end-requires : goal.end-requires
end-requires g c =
    unread_ends (set_in c.args.store.now.held.numbers (name_of c.args.which)) (g.H.Host.state c.args.host.now) (g.H.Host.state c.last_rows.new.host) c.in-Err.off c.in-Err.ensures.why

pub returns-in-Err-clause-why : goal.returns-in-Err-clause-why
returns-in-Err-clause-why g c =
    unread_end (set_in c.args.store.now.held.numbers (name_of c.args.which)) (g.H.Host.state c.args.host.now) (g.H.Host.state c.last_rows.new.host) c.last_rows.ensures.looked
    c.in-Err.off c.end.result c.end.ensures c.in-Err.ensures.why

pub returns-in-Err-clause-world : goal.returns-in-Err-clause-world
returns-in-Err-clause-world g c = λ w at. undamaged_end c.in-Err.off c.end.result c.end.ensures (c.in-Err.ensures.world w at)
