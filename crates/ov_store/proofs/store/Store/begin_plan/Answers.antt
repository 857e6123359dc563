use Rattle.std.proofs.Common.{◌≡◌, ◌∙◌, ap, inr, refl, subst, sym}
use Rattle.std.specs.Prelude.{None}
use Rattle.ov_host.specs.Stops.{Only}
use Rattle.ov_host.specs.Tape.{Tape}
use Rattle.ov_fetch.specs.Extents.{page_bytes}
use Rattle.ov_model.specs.Moves.{BeginPlan, moved}
use Rattle.ov_core.specs.AtWorld.{IsAtNext, IsEither}
use Rattle.law_room.proofs.Room.{within_recorded}
use Rattle.ov_store.specs.Planning.{IsPlanLack, IsPlanRefused, begun_in}
use Rattle.ov_store.specs.Scanning.{set_in}
use Rattle.ov_store.specs.Thresholds.{IsUnbegunWith}
use Rattle.ov_store.proofs.Begun.{set_there, unrecorded_lacks, unrecorded_refused}
use Rattle.ov_store.proofs.Chosen.{unreadied_lacks, unreadied_unbegun, unrecorded_with}
use Rattle.ov_store.proofs.Lacking.{same_epoch}
use Rattle.ov_store.proofs.Looking.{looked_at}
use Rattle.ov_store.proofs.Plans.{begins}
use Rattle.ov_store.proofs.Still.{still}
use Rattle.ov_store.proofs.Unhurt.{planned_whole}
use Rattle.ov_store.proofs.store.Store.begin_plan.Goals as goal

-- ---- nothing is ready

pub returns-in-Err-clause-stops : goal.returns-in-Err-clause-stops
returns-in-Err-clause-stops g c = λ w at.
    subst (λ (tape : Tape). Only (g.H.Host.state c.args.host.now).tape tape (IsEither w (begun_in c.args.name.now c.args.p c.args.q w) (g.H.Host.state c.args.host.now).tape.disk.printed)) (sym (c.plan_from.ensures.looked.tape at.at.told))
    (still w (begun_in c.args.name.now c.args.p c.args.q w) c.args.self.now.held (g.H.Host.state c.args.host.now) at)

pub returns-in-Err-clause-refused : goal.returns-in-Err-clause-refused
returns-in-Err-clause-refused g c = λ w at. subst (IsPlanRefused c.args.name.now None) (sym c.unplanned.ensures.answer) (c.in-Err.ensures.refused w at)

pub returns-in-Err-clause-why : goal.returns-in-Err-clause-why
returns-in-Err-clause-why g c =
    subst (IsUnbegunWith (set_in c.args.self.now.held.numbers c.args.name.now) c.args.p c.args.q (g.H.Host.state c.args.host.now) (g.H.Host.state c.plan_from.new.host) c.args.self.now.held) (sym c.unplanned.ensures.answer)
    (unreadied_unbegun (set_in c.args.self.now.held.numbers c.args.name.now) c.args.p c.args.q (g.H.Host.state c.args.host.now) (g.H.Host.state c.plan_from.new.host) c.args.self.now.held c.in-Err.off c.in-Err.ensures.why)

pub returns-in-Err-clause-room : goal.returns-in-Err-clause-room
returns-in-Err-clause-room g c = λ w d entry past at named within.
    subst (IsPlanLack entry past (BeginPlan d.cvd.number c.args.p c.args.q) w) (sym c.unplanned.ensures.answer)
    (unreadied_lacks (set_in c.args.self.now.held.numbers c.args.name.now) (g.H.Host.state c.args.host.now) (g.H.Host.state c.plan_from.new.host) entry past (BeginPlan d.cvd.number c.args.p c.args.q) w c.in-Err.off c.in-Err.ensures.why)

-- ---- it isn't recorded

pub returns-in-Err-record_bare-clause-stops : goal.returns-in-Err-record_bare-clause-stops
returns-in-Err-record_bare-clause-stops g c = λ w at.
    begins w c.args.self.now.held (g.H.Host.state c.args.host.now) at c.args.name.now c.args.p c.args.q c.requires.allowed (λ v. Only (g.H.Host.state c.args.host.now).tape (g.H.Host.state c.record_bare.new.host).tape (IsEither w v (g.H.Host.state c.args.host.now).tape.disk.printed))
    (λ d named. subst (λ (tape : Tape). Only tape (g.H.Host.state c.record_bare.new.host).tape (IsEither w (moved (BeginPlan d.cvd.number c.args.p c.args.q) w) tape.disk.printed)) (c.plan_from.ensures.looked.tape at.at.told)
    (c.record_bare.ensures.stops w (BeginPlan d.cvd.number c.args.p c.args.q) (looked_at w c.args.self.now.held (g.H.Host.state c.args.host.now) (g.H.Host.state c.plan_from.new.host) c.plan_from.ensures.looked at) (c.in-Ok.ensures.asks w d at named)))

pub returns-in-Err-record_bare-clause-refused : goal.returns-in-Err-record_bare-clause-refused
returns-in-Err-record_bare-clause-refused g c = λ w at.
    unrecorded_refused c.args.self.now.held c.in-Ok.planned.event (g.H.Host.state c.plan_from.new.host) (g.H.Host.state c.record_bare.new.host) c.unrecorded.result c.args.name.now None c.in-Err-record_bare.off
    refl c.in-Err-record_bare.ensures.why c.unrecorded.ensures

pub returns-in-Err-record_bare-clause-why : goal.returns-in-Err-record_bare-clause-why
returns-in-Err-record_bare-clause-why g c =
    let there = set_there c.args.self.now.held c.args.name.now c.args.p c.args.q c.requires.allowed
    in unrecorded_with c.args.self.now.held c.in-Ok.planned.event (g.H.Host.state c.plan_from.new.host) (g.H.Host.state c.record_bare.new.host) c.unrecorded.result
    (set_in c.args.self.now.held.numbers c.args.name.now) c.args.p c.args.q (g.H.Host.state c.args.host.now) there.0 c.in-Ok.planned c.in-Err-record_bare.off there.1
    (c.in-Ok.ensures.by there.0 there.1) refl c.plan_from.ensures.looked.faults c.in-Err-record_bare.ensures.why c.unrecorded.ensures

pub returns-in-Err-record_bare-clause-room : goal.returns-in-Err-record_bare-clause-room
returns-in-Err-record_bare-clause-room g c = λ w d entry past at named within.
    unrecorded_lacks c.args.self.now.held c.in-Ok.planned.event (g.H.Host.state c.plan_from.new.host) (g.H.Host.state c.record_bare.new.host) c.unrecorded.result entry past (BeginPlan d.cvd.number c.args.p c.args.q) w c.in-Err-record_bare.off within
    c.in-Ok.ensures.bare (c.in-Ok.ensures.asks w d at named) c.in-Err-record_bare.ensures.why c.unrecorded.ensures

-- ---- it began

pub returns-in-Ok-record_bare-clause-done : goal.returns-in-Ok-record_bare-clause-done
returns-in-Ok-record_bare-clause-done g c = λ s named. record {
  planned = c.in-Ok.planned;
  by = c.in-Ok.ensures.by s named;
  recorded = c.in-Ok-record_bare.ensures.made;
  report_is = refl;
}

pub returns-in-Ok-record_bare-clause-undamaged : goal.returns-in-Ok-record_bare-clause-undamaged
returns-in-Ok-record_bare-clause-undamaged g c = λ s told named page.
    λ bad. planned_whole (page_bytes (g.H.Host.state c.args.host.now)) s c.args.p c.args.q c.in-Ok.planned.event ((c.in-Ok.ensures.by s named).read told) page (inr (inr bad))

pub returns-in-Ok-record_bare-clause-stops : goal.returns-in-Ok-record_bare-clause-stops
returns-in-Ok-record_bare-clause-stops g c = λ w at.
    begins w c.args.self.now.held (g.H.Host.state c.args.host.now) at c.args.name.now c.args.p c.args.q c.requires.allowed (λ v. Only (g.H.Host.state c.args.host.now).tape (g.H.Host.state c.record_bare.new.host).tape (IsEither w v (g.H.Host.state c.args.host.now).tape.disk.printed))
    (λ d named. subst (λ (tape : Tape). Only tape (g.H.Host.state c.record_bare.new.host).tape (IsEither w (moved (BeginPlan d.cvd.number c.args.p c.args.q) w) tape.disk.printed)) (c.plan_from.ensures.looked.tape at.at.told)
    (c.record_bare.ensures.stops w (BeginPlan d.cvd.number c.args.p c.args.q) (looked_at w c.args.self.now.held (g.H.Host.state c.args.host.now) (g.H.Host.state c.plan_from.new.host) c.plan_from.ensures.looked at) (c.in-Ok.ensures.asks w d at named)))

pub returns-in-Ok-record_bare-clause-moves : goal.returns-in-Ok-record_bare-clause-moves
returns-in-Ok-record_bare-clause-moves g c = λ w at.
    begins w c.args.self.now.held (g.H.Host.state c.args.host.now) at c.args.name.now c.args.p c.args.q c.requires.allowed (λ v. IsAtNext v c.record_bare.new.self.held (g.H.Host.state c.args.host.now) (g.H.Host.state c.record_bare.new.host))
    (λ d named.
    let next : IsAtNext (moved (BeginPlan d.cvd.number c.args.p c.args.q) w) c.record_bare.new.self.held (g.H.Host.state c.plan_from.new.host) (g.H.Host.state c.record_bare.new.host)
    = c.in-Ok-record_bare.ensures.moves w (BeginPlan d.cvd.number c.args.p c.args.q) (looked_at w c.args.self.now.held (g.H.Host.state c.args.host.now) (g.H.Host.state c.plan_from.new.host) c.plan_from.ensures.looked at) (c.in-Ok.ensures.asks w d at named)
    in record { at = next.at; printed_same = next.printed_same ∙ ap (λ (tape : Tape). tape.disk.printed) (c.plan_from.ensures.looked.tape at.at.told) })

pub returns-in-Ok-record_bare-clause-room : goal.returns-in-Ok-record_bare-clause-room
returns-in-Ok-record_bare-clause-room g c = λ w d entry past at named within.
    let now = looked_at w c.args.self.now.held (g.H.Host.state c.args.host.now) (g.H.Host.state c.plan_from.new.host) c.plan_from.ensures.looked at
    in let asks = c.in-Ok.ensures.asks w d at named
    in within_recorded entry past c.args.self.now.held c.record_bare.new.self.held (BeginPlan d.cvd.number c.args.p c.args.q) w c.in-Ok.planned.event within c.in-Ok.ensures.bare asks c.in-Ok-record_bare.ensures.made (c.in-Ok-record_bare.ensures.grows w now)
    (same_epoch w (BeginPlan d.cvd.number c.args.p c.args.q) c.args.self.now.held c.record_bare.new.self.held (g.H.Host.state c.plan_from.new.host) (g.H.Host.state c.record_bare.new.host) (λ same. cc) asks.fits now (c.in-Ok-record_bare.ensures.moves w (BeginPlan d.cvd.number c.args.p c.args.q) now asks))
