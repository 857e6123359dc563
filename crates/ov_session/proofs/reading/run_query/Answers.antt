use Rattle.std.proofs.Common.{ℕ, List, subst}
use Rattle.ov_query.specs.Queries.{IsQueryDamaged, query_off, query_reads}
use Rattle.ov_session.proofs.Dealing.{end_spared}
use Rattle.ov_session.proofs.Querying.{damaged_by, query_cause, query_end}
use Rattle.ov_session.specs.Commands.{IsDamageOf}
use Rattle.ov_session.proofs.reading.run_query.Goals as goal

pub end-requires : goal.end-requires
end-requires g c =
    query_end (query_off c.args.store.now.held.numbers c.as_str.result.now c.as_str-2.result.now) (query_reads c.args.store.now.held.numbers c.as_str-2.result.now)
    (g.H.Host.state c.args.host.now) (g.H.Host.state c.answer_to.new.host) c.in-Err.off c.in-Err.ensures.why

pub returns-in-Err-clause-damaged : goal.returns-in-Err-clause-damaged
returns-in-Err-clause-damaged g c =
    let n = c.args.store.now.held.numbers
    in let host = g.H.Host.state c.answer_to.new.host
    in let off = query_off n c.as_str.result.now c.as_str-2.result.now
    in let reads = query_reads n c.as_str-2.result.now
    in subst (λ (user : List ℕ). IsDamageOf (IsQueryDamaged n user c.args.text.now host) c.end.result) c.as_str.ensures.text
    (subst (λ (text : List ℕ). IsDamageOf (IsQueryDamaged n c.as_str.result.now text host) c.end.result) c.as_str-2.ensures.text
    (damaged_by off reads (g.H.Host.state c.args.host.now) host c.end.result c.answer_to.ensures.looked
    (query_cause off reads (g.H.Host.state c.args.host.now) host c.in-Err.off c.end.result c.in-Err.ensures.why c.end.ensures)))

pub returns-in-Err-clause-undamaged : goal.returns-in-Err-clause-undamaged
returns-in-Err-clause-undamaged g c = λ w at. end_spared c.in-Err.off c.end.result c.end.ensures (c.in-Err.ensures.undamaged w at)
