use Rattle.std.proofs.Common.{◌≡◌, ◌/◌, ℕ, true, ◌∙◌, ap}
use Rattle.std.proofs.lemmas.Result.{err_from_is_err_and}
use Rattle.ov_host.specs.Host.{State}
use Rattle.ov_journal.proofs.Loading.{looked_stops}
use Rattle.ov_open.specs.Building.{of_journal}
use Rattle.ov_open.specs.Opening.{IsWorld}
use Rattle.ov_open.proofs.Answers.{answered, journal_refuses, beside}
use Rattle.ov_open.proofs.Worlds.{answers_world, no_refusal, stops_world}
use Rattle.ov_open.proofs.opening.open.Goals as goal

pub returns-in_err-journal-clause-world : goal.returns-in_err-journal-clause-world
returns-in_err-journal-clause-world g c w told stands =
    let p = err_from_is_err_and c.from_residual.result c.from_residual.ensures.1
    in let s0 : State = g.H.Host.state c.args.host.now
    in let s1 : State = g.H.Host.state c.open.new.host
    in rw (p.1, p.2)
    (no_refusal w (of_journal c.in_err-journal.field-0.0) s0.tape.disk s1.tape.disk stands (journal_refuses c.in_err-journal.field-0.0 s0.tape.disk s1.tape.disk (c.in_err-journal.ensures.answer told)))

pub returns-in_err-journal-clause-stops : goal.returns-in_err-journal-clause-stops
returns-in_err-journal-clause-stops g c w told rest stands =
    stops_world w (g.H.Host.state c.args.host.now).tape (g.H.Host.state c.open.new.host).tape rest stands (c.in_err-journal.ensures.stops told)

pub returns-in_err-there-clause-stops : goal.returns-in_err-there-clause-stops
returns-in_err-there-clause-stops g c w told rest stands =
    let s0 : State = g.H.Host.state c.args.host.now
    in let s1 : State = g.H.Host.state c.open.new.host
    in looked_stops s0.tape s1.tape (g.H.Host.state c.len.new.self).tape (IsWorld w s0.tape.disk.printed) (c.in_err-there.ensures.call.plays (c.in_ok-journal.ensures.passes.told ∙ told))
    (stops_world w s0.tape s1.tape rest stands (c.in_ok-journal.ensures.stops told))

pub returns-clause-answer : goal.returns-clause-answer
returns-clause-answer g c told =
    let s0 : State = g.H.Host.state c.args.host.now
    in let s1 : State = g.H.Host.state c.open.new.host
    in let told1 : s1.tells ≡ true = c.in_ok-journal.ensures.passes.told ∙ told
    in answered s0.tape.disk s1 (g.H.Host.state c.len.new.self) c.in_ok-journal.journal c.in_ok-journal.payloads (c.in_ok-there.field-0 / 4096)
    (c.in_ok-journal.ensures.answer told) (c.in_ok-journal.ensures.done told) (c.in_ok-journal.ensures.settled told)
    c.in_ok-there.ensures.call.told (c.in_ok-there.ensures.call.plays told1) (ap (λ (n : ℕ). n / 4096) (c.in_ok-there.ensures.len told1))
    c.core_of.result (rw c.as_slice.ensures at c.core_of.ensures)

pub returns-clause-world : goal.returns-clause-world
returns-clause-world g c w told stands =
    answers_world w (g.H.Host.state c.args.host.now).tape.disk c.core_of.result (g.H.Host.state c.len.new.self) stands (returns-clause-answer g c told)

pub returns-clause-stops : goal.returns-clause-stops
returns-clause-stops g c w told rest stands =
    let s0 : State = g.H.Host.state c.args.host.now
    in let s1 : State = g.H.Host.state c.open.new.host
    in looked_stops s0.tape s1.tape (g.H.Host.state c.len.new.self).tape (IsWorld w s0.tape.disk.printed) (c.in_ok-there.ensures.call.plays (c.in_ok-journal.ensures.passes.told ∙ told))
    (stops_world w s0.tape s1.tape rest stands (c.in_ok-journal.ensures.stops told))

pub returns-clause-beside : goal.returns-clause-beside
returns-clause-beside g c told =
    let s0 : State = g.H.Host.state c.args.host.now
    in let s1 : State = g.H.Host.state c.open.new.host
    in beside s0.tape.disk c.in_ok-journal.journal c.in_ok-journal.payloads (c.in_ok-there.field-0 / 4096) c.core_of.result s1 (g.H.Host.state c.len.new.self)
    (c.in_ok-there.ensures.call.plays (c.in_ok-journal.ensures.passes.told ∙ told)) (rw c.as_slice.ensures at c.core_of.ensures) (returns-clause-answer g c told) (c.in_ok-journal.ensures.room told)
