use Rattle.std.proofs.Common.{◌≡◌, sym, ap, subst}
use Rattle.std.specs.Prelude.{Some}
use Rattle.ov_host.specs.Stops.{Only}
use Rattle.ov_model.specs.Moves.{Drop}
use Rattle.ov_core.specs.AtWorld.{IsAtNext, IsAtWorld, IsEither}
use Rattle.ov_core.specs.Held.{Held, IsByJournal}
use Rattle.ov_store.specs.Dropping.{dropped, number_named}
use Rattle.ov_store.specs.Worlds.{IsLack, IsRefusedAs, and_made, drop_of_set, drop_refusal}
use Rattle.law_room.specs.Room.{IsWithin}
use Rattle.law_room.proofs.Room.{within_dropped}
use Rattle.ov_core.specs.Rooms.{IsWhyKept}
use Rattle.ov_store.proofs.Lacking.{drop_lacks, drop_refused_as, same_epoch}
use Rattle.ov_store.proofs.Dropping.{drop_applies, drop_fits, drop_gone, drop_is, drop_number}
use Rattle.ov_store.proofs.Still.{still}
use Rattle.ov_store.proofs.store.Store.drop_cvd.Goals as goal

pub returns-in_default-clause-stops : goal.returns-in_default-clause-stops
returns-in_default-clause-stops g c = λ w at. still w (dropped c.args.name.now w) c.args.self.now.held (g.H.Host.state c.args.host.now) at

pub drop_cvd-requires-clause-applies : goal.drop_cvd-requires-clause-applies
drop_cvd-requires-clause-applies g c =
    drop_applies c.self.inside.core.journal.format c.self.inside.core.numbers c.args.name.now c.in-Some.cvd
    (subst (λ (held : Held). number_named held.numbers c.args.name.now ≡ Some c.in-Some.cvd) (sym (ap (λ kept. kept.held) c.self.view_is)) (sym c.in-Some.ensures))

pub returns-in-Ok-clause-stops : goal.returns-in-Ok-clause-stops
returns-in-Ok-clause-stops g c = λ w at.
    subst (λ v. Only (g.H.Host.state c.args.host.now).tape (g.H.Host.state c.drop_cvd.new.host).tape (IsEither w v (g.H.Host.state c.args.host.now).tape.disk.printed))
    (drop_is w c.args.self.now.held (g.H.Host.state c.args.host.now) at c.args.name.now c.in-Some.cvd (sym c.in-Some.ensures))
    (c.drop_cvd.ensures.stops w (subst (λ held. IsAtWorld w held (g.H.Host.state c.args.host.now)) (sym (ap (λ kept. kept.held) c.self.view_is)) at)
    (drop_fits w c.args.self.now.held (g.H.Host.state c.args.host.now) at c.args.name.now c.in-Some.cvd (sym c.in-Some.ensures)))

pub returns-in-Ok-clause-moves : goal.returns-in-Ok-clause-moves
returns-in-Ok-clause-moves g c = λ w at.
    subst (λ v. IsAtNext v c.drop_cvd.new.self (g.H.Host.state c.args.host.now) (g.H.Host.state c.drop_cvd.new.host))
    (drop_is w c.args.self.now.held (g.H.Host.state c.args.host.now) at c.args.name.now c.in-Some.cvd (sym c.in-Some.ensures))
    (c.in-Ok.ensures.done w (subst (λ held. IsAtWorld w held (g.H.Host.state c.args.host.now)) (sym (ap (λ kept. kept.held) c.self.view_is)) at)
    (drop_fits w c.args.self.now.held (g.H.Host.state c.args.host.now) at c.args.name.now c.in-Some.cvd (sym c.in-Some.ensures)))

pub returns-in-Err-clause-stops : goal.returns-in-Err-clause-stops
returns-in-Err-clause-stops g c = λ w at.
    subst (λ v. Only (g.H.Host.state c.args.host.now).tape (g.H.Host.state c.drop_cvd.new.host).tape (IsEither w v (g.H.Host.state c.args.host.now).tape.disk.printed))
    (drop_is w c.args.self.now.held (g.H.Host.state c.args.host.now) at c.args.name.now c.in-Some.cvd (sym c.in-Some.ensures))
    (c.drop_cvd.ensures.stops w (subst (λ held. IsAtWorld w held (g.H.Host.state c.args.host.now)) (sym (ap (λ kept. kept.held) c.self.view_is)) at)
    (drop_fits w c.args.self.now.held (g.H.Host.state c.args.host.now) at c.args.name.now c.in-Some.cvd (sym c.in-Some.ensures)))

pub returns-in_default-clause-refused : goal.returns-in_default-clause-refused
returns-in_default-clause-refused g c = λ w at. ap (drop_of_set c.args.name.now) (drop_gone w c.args.self.now.held (g.H.Host.state c.args.host.now) at c.args.name.now (sym c.in_default.ensures))

pub returns-in-Ok-clause-refused : goal.returns-in-Ok-clause-refused
returns-in-Ok-clause-refused g c = λ w at. (drop_number w c.args.self.now.held (g.H.Host.state c.args.host.now) at c.args.name.now c.in-Some.cvd (sym c.in-Some.ensures)).0

pub returns-in-Err-clause-refused : goal.returns-in-Err-clause-refused
returns-in-Err-clause-refused g c = λ w at.
    subst (IsRefusedAs c.args.name.now (drop_refusal w c.args.name.now)) (sym c.refusal.ensures.answer)
    (drop_refused_as c.args.name.now c.args.self.now.held (g.H.Host.state c.args.host.now) (g.H.Host.state c.drop_cvd.new.host) w c.in-Some.cvd c.in-Err.off
    (subst (λ held. IsWhyKept c.in-Err.off held c.in-Some.cvd (g.H.Host.state c.args.host.now) (g.H.Host.state c.drop_cvd.new.host)) (ap (λ kept. kept.held) c.self.view_is) c.in-Err.ensures.why) (drop_number w c.args.self.now.held (g.H.Host.state c.args.host.now) at c.args.name.now c.in-Some.cvd (sym c.in-Some.ensures)).1)

pub returns-in-Ok-clause-room : goal.returns-in-Ok-clause-room
returns-in-Ok-clause-room g c = λ w d entry past at named within.
    let inside : IsAtWorld w c.self.inside.core (g.H.Host.state c.args.host.now) = subst (λ held. IsAtWorld w held (g.H.Host.state c.args.host.now)) (sym (ap (λ kept. kept.held) c.self.view_is)) at
    in let before : IsWithin entry past c.self.inside.core = subst (IsWithin entry past) (sym (ap (λ kept. kept.held) c.self.view_is)) within
    in subst (λ k. IsWithin entry (and_made past (Drop k) w) c.drop_cvd.new.self) ((drop_number w c.args.self.now.held (g.H.Host.state c.args.host.now) at c.args.name.now c.in-Some.cvd (sym c.in-Some.ensures)).2 d named)
    (within_dropped entry past c.self.inside.core c.drop_cvd.new.self c.in-Some.cvd w before c.in-Ok.ensures.made (c.in-Ok.ensures.grows inside.payloads inside.at inside.rest)
    (same_epoch w (Drop c.in-Some.cvd) c.self.inside.core c.drop_cvd.new.self (g.H.Host.state c.args.host.now) (g.H.Host.state c.drop_cvd.new.host)
    (λ same. cc) (drop_fits w c.args.self.now.held (g.H.Host.state c.args.host.now) at c.args.name.now c.in-Some.cvd (sym c.in-Some.ensures)) inside
    (c.in-Ok.ensures.done w inside (drop_fits w c.args.self.now.held (g.H.Host.state c.args.host.now) at c.args.name.now c.in-Some.cvd (sym c.in-Some.ensures)))))

pub returns-in-Err-clause-room : goal.returns-in-Err-clause-room
returns-in-Err-clause-room g c = λ w d entry past at named within.
    subst (λ k. IsLack entry past (Drop k) w c.refusal.result) ((drop_number w c.args.self.now.held (g.H.Host.state c.args.host.now) at c.args.name.now c.in-Some.cvd (sym c.in-Some.ensures)).2 d named)
    (subst (IsLack entry past (Drop c.in-Some.cvd) w) (sym c.refusal.ensures.answer)
    (drop_lacks c.args.name.now c.args.self.now.held (g.H.Host.state c.args.host.now) (g.H.Host.state c.drop_cvd.new.host) w c.in-Some.cvd entry past c.in-Err.off within
    (subst (λ held. IsWhyKept c.in-Err.off held c.in-Some.cvd (g.H.Host.state c.args.host.now) (g.H.Host.state c.drop_cvd.new.host)) (ap (λ kept. kept.held) c.self.view_is) c.in-Err.ensures.why)))

pub returns-in-Ok-clause-by_journal : goal.returns-in-Ok-clause-by_journal
returns-in-Ok-clause-by_journal g c = λ before.
    c.in-Ok.ensures.by_journal (subst (λ held. IsByJournal held (g.H.Host.state c.args.host.now)) (sym (ap (λ kept. kept.held) c.self.view_is)) before)
