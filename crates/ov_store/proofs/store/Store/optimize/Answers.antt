use Rattle.std.proofs.Common.{◌≡◌, ◌∙◌, ap, refl, subst, sym}
use Rattle.std.specs.Prelude.{None, Some}
use Rattle.ov_host.specs.Stops.{Only}
use Rattle.ov_host.specs.Tape.{Tape}
use Rattle.ov_fetch.specs.Extents.{page_bytes}
use Rattle.ov_model.specs.Moves.{BeginPlan, moved}
use Rattle.ov_open.specs.Opening.{IsWorld}
use Rattle.ov_core.specs.AtWorld.{IsAtNext, IsEither}
use Rattle.law_room.proofs.Room.{within_recorded}
use Rattle.ov_store.specs.Planning.{IsPlanRefused, begun_in, optimize_refused}
use Rattle.ov_store.proofs.Begun.{unrecorded_lacks, unrecorded_refused}
use Rattle.ov_store.proofs.Lacking.{same_epoch}
use Rattle.ov_store.proofs.Looking.{looked_at}
use Rattle.ov_store.proofs.Plans.{begins, numbers_refuse_too, world_allows}
use Rattle.ov_store.proofs.Still.{still, still_world}
use Rattle.ov_store.proofs.Unhurt.{planned_whole}
use Rattle.ov_store.proofs.store.Store.optimize.Goals as goal

-- ---- nothing is ready

pub returns-in-Err-clause-stops : goal.returns-in-Err-clause-stops
returns-in-Err-clause-stops g c = λ w at.
    subst (λ (tape : Tape). Only (g.H.Host.state c.args.host.now).tape tape (IsEither w (begun_in c.args.name.now c.args.p c.args.q w) (g.H.Host.state c.args.host.now).tape.disk.printed)) (sym (c.plan_for.ensures.looked.tape at.at.told))
    (still w (begun_in c.args.name.now c.args.p c.args.q w) c.args.self.now.held (g.H.Host.state c.args.host.now) at)

pub returns-in-Err-clause-refused : goal.returns-in-Err-clause-refused
returns-in-Err-clause-refused g c = λ w at.
    subst (IsPlanRefused c.args.name.now (optimize_refused w c.args.name.now c.args.p c.args.q)) (sym c.unplanned.ensures.answer) (c.in-Err.ensures.refused w at)

pub returns-in-Err-clause-untouched : goal.returns-in-Err-clause-untouched
returns-in-Err-clause-untouched g c = λ w refusal at no.
    let off = numbers_refuse_too w c.args.self.now.held (g.H.Host.state c.args.host.now) at c.args.name.now c.args.p c.args.q refusal no
    in c.plan_for.ensures.unread off.0 off.1

pub returns-in-Err-clause-still : goal.returns-in-Err-clause-still
returns-in-Err-clause-still g c = λ w refusal at no.
    subst (λ (tape : Tape). Only (g.H.Host.state c.args.host.now).tape tape (IsWorld w (g.H.Host.state c.args.host.now).tape.disk.printed)) (sym (c.plan_for.ensures.looked.tape at.at.told))
    (still_world w c.args.self.now.held (g.H.Host.state c.args.host.now) at)

-- ---- it isn't recorded

pub returns-in-Err-record_bare-clause-stops : goal.returns-in-Err-record_bare-clause-stops
returns-in-Err-record_bare-clause-stops g c = λ w at.
    begins w c.args.self.now.held (g.H.Host.state c.args.host.now) at c.args.name.now c.args.p c.args.q c.in-Ok.ensures.allowed (λ v. Only (g.H.Host.state c.args.host.now).tape (g.H.Host.state c.record_bare.new.host).tape (IsEither w v (g.H.Host.state c.args.host.now).tape.disk.printed))
    (λ d named. subst (λ (tape : Tape). Only tape (g.H.Host.state c.record_bare.new.host).tape (IsEither w (moved (BeginPlan d.cvd.number c.args.p c.args.q) w) tape.disk.printed)) (c.plan_for.ensures.looked.tape at.at.told)
    (c.record_bare.ensures.stops w (BeginPlan d.cvd.number c.args.p c.args.q) (looked_at w c.args.self.now.held (g.H.Host.state c.args.host.now) (g.H.Host.state c.plan_for.new.host) c.plan_for.ensures.looked at) (c.in-Ok.ensures.asks w d at named)))

pub returns-in-Err-record_bare-clause-refused : goal.returns-in-Err-record_bare-clause-refused
returns-in-Err-record_bare-clause-refused g c = λ w at.
    unrecorded_refused c.args.self.now.held c.in-Ok.planned.event (g.H.Host.state c.plan_for.new.host) (g.H.Host.state c.record_bare.new.host) c.unrecorded.result c.args.name.now (optimize_refused w c.args.name.now c.args.p c.args.q) c.in-Err-record_bare.off
    (world_allows w c.args.self.now.held (g.H.Host.state c.args.host.now) at c.args.name.now c.args.p c.args.q c.in-Ok.ensures.allowed) c.in-Err-record_bare.ensures.why c.unrecorded.ensures

pub returns-in-Err-record_bare-clause-untouched : goal.returns-in-Err-record_bare-clause-untouched
returns-in-Err-record_bare-clause-untouched g c = λ w refusal at no.
    let clash : None ≡ Some refusal = sym (world_allows w c.args.self.now.held (g.H.Host.state c.args.host.now) at c.args.name.now c.args.p c.args.q c.in-Ok.ensures.allowed) ∙ no in absurd cc

pub returns-in-Err-record_bare-clause-still : goal.returns-in-Err-record_bare-clause-still
returns-in-Err-record_bare-clause-still g c = λ w refusal at no.
    let clash : None ≡ Some refusal = sym (world_allows w c.args.self.now.held (g.H.Host.state c.args.host.now) at c.args.name.now c.args.p c.args.q c.in-Ok.ensures.allowed) ∙ no in absurd cc

pub returns-in-Err-record_bare-clause-room : goal.returns-in-Err-record_bare-clause-room
returns-in-Err-record_bare-clause-room g c = λ w d entry past at named within.
    unrecorded_lacks c.args.self.now.held c.in-Ok.planned.event (g.H.Host.state c.plan_for.new.host) (g.H.Host.state c.record_bare.new.host) c.unrecorded.result entry past (BeginPlan d.cvd.number c.args.p c.args.q) w c.in-Err-record_bare.off within
    c.in-Ok.ensures.bare (c.in-Ok.ensures.asks w d at named) c.in-Err-record_bare.ensures.why c.unrecorded.ensures

-- ---- it began

pub returns-in-Ok-record_bare-clause-done : goal.returns-in-Ok-record_bare-clause-done
returns-in-Ok-record_bare-clause-done g c = λ s named. record {
  planned = c.in-Ok.planned;
  by = c.in-Ok.ensures.by s named;
  recorded = c.in-Ok-record_bare.ensures.made;
  report_is = refl;
}

pub returns-in-Ok-record_bare-clause-undamaged : goal.returns-in-Ok-record_bare-clause-undamaged
returns-in-Ok-record_bare-clause-undamaged g c = λ s told named page.
    planned_whole (page_bytes (g.H.Host.state c.args.host.now)) s c.args.p c.args.q c.in-Ok.planned.event ((c.in-Ok.ensures.by s named).read told) page

pub returns-in-Ok-record_bare-clause-stops : goal.returns-in-Ok-record_bare-clause-stops
returns-in-Ok-record_bare-clause-stops g c = λ w at.
    begins w c.args.self.now.held (g.H.Host.state c.args.host.now) at c.args.name.now c.args.p c.args.q c.in-Ok.ensures.allowed (λ v. Only (g.H.Host.state c.args.host.now).tape (g.H.Host.state c.record_bare.new.host).tape (IsEither w v (g.H.Host.state c.args.host.now).tape.disk.printed))
    (λ d named. subst (λ (tape : Tape). Only tape (g.H.Host.state c.record_bare.new.host).tape (IsEither w (moved (BeginPlan d.cvd.number c.args.p c.args.q) w) tape.disk.printed)) (c.plan_for.ensures.looked.tape at.at.told)
    (c.record_bare.ensures.stops w (BeginPlan d.cvd.number c.args.p c.args.q) (looked_at w c.args.self.now.held (g.H.Host.state c.args.host.now) (g.H.Host.state c.plan_for.new.host) c.plan_for.ensures.looked at) (c.in-Ok.ensures.asks w d at named)))

pub returns-in-Ok-record_bare-clause-moves : goal.returns-in-Ok-record_bare-clause-moves
returns-in-Ok-record_bare-clause-moves g c = λ w at.
    begins w c.args.self.now.held (g.H.Host.state c.args.host.now) at c.args.name.now c.args.p c.args.q c.in-Ok.ensures.allowed (λ v. IsAtNext v c.record_bare.new.self.held (g.H.Host.state c.args.host.now) (g.H.Host.state c.record_bare.new.host))
    (λ d named.
    let next : IsAtNext (moved (BeginPlan d.cvd.number c.args.p c.args.q) w) c.record_bare.new.self.held (g.H.Host.state c.plan_for.new.host) (g.H.Host.state c.record_bare.new.host)
    = c.in-Ok-record_bare.ensures.moves w (BeginPlan d.cvd.number c.args.p c.args.q) (looked_at w c.args.self.now.held (g.H.Host.state c.args.host.now) (g.H.Host.state c.plan_for.new.host) c.plan_for.ensures.looked at) (c.in-Ok.ensures.asks w d at named)
    in record { at = next.at; printed_same = next.printed_same ∙ ap (λ (tape : Tape). tape.disk.printed) (c.plan_for.ensures.looked.tape at.at.told) })

pub returns-in-Ok-record_bare-clause-refused : goal.returns-in-Ok-record_bare-clause-refused
returns-in-Ok-record_bare-clause-refused g c = λ w at. world_allows w c.args.self.now.held (g.H.Host.state c.args.host.now) at c.args.name.now c.args.p c.args.q c.in-Ok.ensures.allowed

pub returns-in-Ok-record_bare-clause-untouched : goal.returns-in-Ok-record_bare-clause-untouched
returns-in-Ok-record_bare-clause-untouched g c = λ w refusal at no.
    let clash : None ≡ Some refusal = sym (world_allows w c.args.self.now.held (g.H.Host.state c.args.host.now) at c.args.name.now c.args.p c.args.q c.in-Ok.ensures.allowed) ∙ no in absurd cc

pub returns-in-Ok-record_bare-clause-still : goal.returns-in-Ok-record_bare-clause-still
returns-in-Ok-record_bare-clause-still g c = λ w refusal at no.
    let clash : None ≡ Some refusal = sym (world_allows w c.args.self.now.held (g.H.Host.state c.args.host.now) at c.args.name.now c.args.p c.args.q c.in-Ok.ensures.allowed) ∙ no in absurd cc

pub returns-in-Ok-record_bare-clause-room : goal.returns-in-Ok-record_bare-clause-room
returns-in-Ok-record_bare-clause-room g c = λ w d entry past at named within.
    let now = looked_at w c.args.self.now.held (g.H.Host.state c.args.host.now) (g.H.Host.state c.plan_for.new.host) c.plan_for.ensures.looked at
    in let asks = c.in-Ok.ensures.asks w d at named
    in within_recorded entry past c.args.self.now.held c.record_bare.new.self.held (BeginPlan d.cvd.number c.args.p c.args.q) w c.in-Ok.planned.event within c.in-Ok.ensures.bare asks c.in-Ok-record_bare.ensures.made (c.in-Ok-record_bare.ensures.grows w now)
    (same_epoch w (BeginPlan d.cvd.number c.args.p c.args.q) c.args.self.now.held c.record_bare.new.self.held (g.H.Host.state c.plan_for.new.host) (g.H.Host.state c.record_bare.new.host) (λ same. cc) asks.fits now (c.in-Ok-record_bare.ensures.moves w (BeginPlan d.cvd.number c.args.p c.args.q) now asks))
