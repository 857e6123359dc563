use Rattle.std.proofs.Common.{◌≡◌, ◌≤◌, ◌+◌, length, subst, sym, ap}
use Rattle.ov_event.specs.Spelling.{spelling}
use Rattle.ov_core.specs.AtWorld.{IsAtWorld}
use Rattle.ov_core.specs.Held.{Held, IsByJournal}
use Rattle.ov_core.specs.Rooms.{IsWhy}
use Rattle.ov_store.proofs.store.Store.bring.Goals as goal

pub returns-in-Ok-clause-stops : goal.returns-in-Ok-clause-stops
returns-in-Ok-clause-stops g c = λ w m at brings.
    c.add.ensures.stops w m (subst (λ held. IsAtWorld w held (g.H.Host.state c.args.host.now)) (sym (ap (λ kept. kept.held) c.self.view_is)) at) brings

pub returns-in-Err-clause-why : goal.returns-in-Err-clause-why
returns-in-Err-clause-why g c =
    subst (λ off. IsWhy off c.args.self.now.held c.args.brought (g.H.Host.state c.args.host.now) (g.H.Host.state c.add.new.host)) (sym c.unmade.ensures.answer)
    (subst (λ held. IsWhy c.in-Err.off held c.args.brought (g.H.Host.state c.args.host.now) (g.H.Host.state c.add.new.host)) (ap (λ kept. kept.held) c.self.view_is) c.in-Err.ensures.why)

pub returns-in-Ok-clause-grows : goal.returns-in-Ok-clause-grows
returns-in-Ok-clause-grows g c = λ w at.
    let inside : IsAtWorld w c.self.inside.core (g.H.Host.state c.args.host.now) = subst (λ held. IsAtWorld w held (g.H.Host.state c.args.host.now)) (sym (ap (λ kept. kept.held) c.self.view_is)) at in
    subst (λ (held : Held). c.add.new.self.journal.end ≤ held.journal.end + 6 + length (spelling c.args.brought.event)) (ap (λ kept. kept.held) c.self.view_is)
    (c.in-Ok.ensures.grows inside.payloads inside.at inside.rest)

pub returns-in-Ok-clause-by_journal : goal.returns-in-Ok-clause-by_journal
returns-in-Ok-clause-by_journal g c = λ before.
    c.in-Ok.ensures.by_journal (subst (λ held. IsByJournal held (g.H.Host.state c.args.host.now)) (sym (ap (λ kept. kept.held) c.self.view_is)) before)
