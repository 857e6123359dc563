use Rattle.std.proofs.Common.{◌≡◌, ◌∙◌, ap, refl, subst, sym}
use Rattle.std.specs.Prelude.{None, Some}
use Rattle.ov_event.specs.declared.event.Event.TheVariants as says
use Rattle.ov_host.specs.Stops.{Only}
use Rattle.ov_host.specs.Tape.{Tape}
use Rattle.ov_fetch.specs.Extents.{page_bytes}
use Rattle.ov_model.specs.Moves.{moved}
use Rattle.ov_model.specs.Steps.{next_step}
use Rattle.ov_core.specs.AtWorld.{IsAtNext, IsEither}
use Rattle.law_room.proofs.Room.{within_made, within_recorded}
use Rattle.ov_migrate.specs.Steps.{IsNextOf, IsReady, IsTested}
use Rattle.ov_store.specs.declared.stepping.Stepped.TheVariants as stepped
use Rattle.ov_store.specs.Stepping.{IsAnswer, IsStepLack, IsStepped, IsStepSpared, IsUnstepped, IsWanting}
use Rattle.ov_store.proofs.Migrating.{copy_answers, copy_brings, copy_lacks, copy_next, copy_unstepped, flip_answers, flip_asks, flip_done, flip_lacks, flip_next, look_spared, made_wants, one_less}
use Rattle.ov_store.proofs.Lacking.{same_epoch, asks_other, brings_other}
use Rattle.ov_store.proofs.Looking.{looked_at}
use Rattle.ov_store.proofs.Still.{still}
use Rattle.ov_store.proofs.store.Store.step.Goals as goal

-- ---- no step is ready

pub returns-in-Err-clause-stops : goal.returns-in-Err-clause-stops
returns-in-Err-clause-stops g c = λ w m at next.
    subst (λ (tape : Tape). Only (g.H.Host.state c.args.host.now).tape tape (IsEither w (moved m w) (g.H.Host.state c.args.host.now).tape.disk.printed)) (sym (c.step_for.ensures.looked.tape at.at.told))
    (still w (moved m w) c.args.self.now.held (g.H.Host.state c.args.host.now) at)

pub returns-in-Err-clause-spared : goal.returns-in-Err-clause-spared
returns-in-Err-clause-spared g c = λ w at. subst IsStepSpared (sym (c.unready_step.ensures.answer ∙ c.from.ensures)) (look_spared c.in-Err.off (c.in-Err.ensures.world w at))

-- ---- none is next

pub returns-in-None-clause-stops : goal.returns-in-None-clause-stops
returns-in-None-clause-stops g c = λ w m at next. let clash : None ≡ Some m = sym (subst (IsNextOf w) c.in-None.is (c.in-Ok.ensures.world w at)) ∙ next in absurd cc

pub returns-in-None-clause-stepped : goal.returns-in-None-clause-stepped
returns-in-None-clause-stepped g c = λ w at. subst (λ o. IsAnswer w o stepped.Nothing) (sym (subst (IsNextOf w) c.in-None.is (c.in-Ok.ensures.world w at))) refl

pub returns-in-None-clause-room : goal.returns-in-None-clause-room
returns-in-None-clause-room g c = λ w m entry past at next within. let clash : None ≡ Some m = sym (subst (IsNextOf w) c.in-None.is (c.in-Ok.ensures.world w at)) ∙ next in absurd cc

-- ---- a copy

pub returns-in-Ok-bring-clause-done : goal.returns-in-Ok-bring-clause-done
returns-in-Ok-bring-clause-done g c = record {
  brought = c.in-Some-Copy.brought;
  next = record { ready = (subst (IsReady c.args.self.now.held.numbers) (c.in-Some-Copy.is ∙ ap Some c.in-Some-Copy.field-0-is) c.in-Ok.ensures.ready); tested = λ told. subst (IsTested (page_bytes (g.H.Host.state c.args.host.now)) c.args.self.now.held.numbers) (c.in-Some-Copy.is ∙ ap Some c.in-Some-Copy.field-0-is) (c.in-Ok.ensures.answer told) };
  made = c.in-Ok-bring.ensures.made;
}

pub returns-in-Ok-bring-clause-stops : goal.returns-in-Ok-bring-clause-stops
returns-in-Ok-bring-clause-stops g c = λ w m at next.
    subst (λ (tape : Tape). Only tape (g.H.Host.state c.bring.new.host).tape (IsEither w (moved m w) tape.disk.printed)) (c.step_for.ensures.looked.tape at.at.told)
    (c.bring.ensures.stops w m (looked_at w c.args.self.now.held (g.H.Host.state c.args.host.now) (g.H.Host.state c.step_for.new.host) c.step_for.ensures.looked at) (copy_brings w c.in-Some-Copy.brought (subst (IsNextOf w) (c.in-Some-Copy.is ∙ ap Some c.in-Some-Copy.field-0-is) (c.in-Ok.ensures.world w at)) m next))

pub returns-in-Ok-bring-clause-moves : goal.returns-in-Ok-bring-clause-moves
returns-in-Ok-bring-clause-moves g c = λ w m at next.
    let after : IsAtNext (moved m w) c.bring.new.self.held (g.H.Host.state c.step_for.new.host) (g.H.Host.state c.bring.new.host)
    = c.in-Ok-bring.ensures.moves w m (looked_at w c.args.self.now.held (g.H.Host.state c.args.host.now) (g.H.Host.state c.step_for.new.host) c.step_for.ensures.looked at) (copy_brings w c.in-Some-Copy.brought (subst (IsNextOf w) (c.in-Some-Copy.is ∙ ap Some c.in-Some-Copy.field-0-is) (c.in-Ok.ensures.world w at)) m next)
    in record { at = after.at; printed_same = after.printed_same ∙ ap (λ (tape : Tape). tape.disk.printed) (c.step_for.ensures.looked.tape at.at.told) }

pub returns-in-Ok-bring-clause-stepped : goal.returns-in-Ok-bring-clause-stepped
returns-in-Ok-bring-clause-stepped g c = λ w at. copy_answers w c.in-Some-Copy.brought (subst (IsNextOf w) (c.in-Some-Copy.is ∙ ap Some c.in-Some-Copy.field-0-is) (c.in-Ok.ensures.world w at))

pub returns-in-Ok-bring-clause-fewer : goal.returns-in-Ok-bring-clause-fewer
returns-in-Ok-bring-clause-fewer g c = λ w at some.
    let is = copy_next w c.in-Some-Copy.brought (subst (IsNextOf w) (c.in-Some-Copy.is ∙ ap Some c.in-Some-Copy.field-0-is) (c.in-Ok.ensures.world w at))
    in let now = looked_at w c.args.self.now.held (g.H.Host.state c.args.host.now) (g.H.Host.state c.step_for.new.host) c.step_for.ensures.looked at
    in one_less w is.0 c.args.self.now.held c.bring.new.self.held (g.H.Host.state c.args.host.now) (g.H.Host.state c.step_for.new.host) (g.H.Host.state c.bring.new.host) at is.1
    (c.in-Ok-bring.ensures.moves w is.0 now (copy_brings w c.in-Some-Copy.brought (subst (IsNextOf w) (c.in-Some-Copy.is ∙ ap Some c.in-Some-Copy.field-0-is) (c.in-Ok.ensures.world w at)) is.0 is.1))

pub returns-in-Ok-bring-clause-room : goal.returns-in-Ok-bring-clause-room
returns-in-Ok-bring-clause-room g c = λ w m entry past at next within.
    let now = looked_at w c.args.self.now.held (g.H.Host.state c.args.host.now) (g.H.Host.state c.step_for.new.host) c.step_for.ensures.looked at
    in let brings = copy_brings w c.in-Some-Copy.brought (subst (IsNextOf w) (c.in-Some-Copy.is ∙ ap Some c.in-Some-Copy.field-0-is) (c.in-Ok.ensures.world w at)) m next
    in within_made entry past c.args.self.now.held c.bring.new.self.held m w c.in-Some-Copy.brought within (subst (IsReady c.args.self.now.held.numbers) (c.in-Some-Copy.is ∙ ap Some c.in-Some-Copy.field-0-is) c.in-Ok.ensures.ready).is.unplaced brings c.in-Ok-bring.ensures.made (c.in-Ok-bring.ensures.grows w now)
    (same_epoch w m c.args.self.now.held c.bring.new.self.held (g.H.Host.state c.step_for.new.host) (g.H.Host.state c.bring.new.host) (brings_other m w _ brings) brings.fits now (c.in-Ok-bring.ensures.moves w m now brings))

-- ---- a copy that isn't made

pub returns-in-Err-bring-clause-why : goal.returns-in-Err-bring-clause-why
returns-in-Err-bring-clause-why g c =
    subst (IsUnstepped c.args.self.now.held (g.H.Host.state c.args.host.now) (g.H.Host.state c.bring.new.host)) (sym c.from-in-Err-bring.ensures)
    (copy_unstepped c.args.self.now.held (g.H.Host.state c.args.host.now) (g.H.Host.state c.step_for.new.host) (g.H.Host.state c.bring.new.host) c.step_for.ensures.looked.faults c.in-Some-Copy.brought c.in-Err-bring.off
    (record { ready = (subst (IsReady c.args.self.now.held.numbers) (c.in-Some-Copy.is ∙ ap Some c.in-Some-Copy.field-0-is) c.in-Ok.ensures.ready); tested = λ told. subst (IsTested (page_bytes (g.H.Host.state c.args.host.now)) c.args.self.now.held.numbers) (c.in-Some-Copy.is ∙ ap Some c.in-Some-Copy.field-0-is) (c.in-Ok.ensures.answer told) }) c.in-Err-bring.ensures.why)

pub returns-in-Err-bring-clause-stops : goal.returns-in-Err-bring-clause-stops
returns-in-Err-bring-clause-stops g c = λ w m at next.
    subst (λ (tape : Tape). Only tape (g.H.Host.state c.bring.new.host).tape (IsEither w (moved m w) tape.disk.printed)) (c.step_for.ensures.looked.tape at.at.told)
    (c.bring.ensures.stops w m (looked_at w c.args.self.now.held (g.H.Host.state c.args.host.now) (g.H.Host.state c.step_for.new.host) c.step_for.ensures.looked at) (copy_brings w c.in-Some-Copy.brought (subst (IsNextOf w) (c.in-Some-Copy.is ∙ ap Some c.in-Some-Copy.field-0-is) (c.in-Ok.ensures.world w at)) m next))

pub returns-in-Err-bring-clause-begins_none : goal.returns-in-Err-bring-clause-begins_none
returns-in-Err-bring-clause-begins_none g c = λ w at. subst (IsWanting w) (sym c.from-in-Err-bring.ensures) (made_wants w c.in-Err-bring.off (copy_next w c.in-Some-Copy.brought (subst (IsNextOf w) (c.in-Some-Copy.is ∙ ap Some c.in-Some-Copy.field-0-is) (c.in-Ok.ensures.world w at))))

pub returns-in-Err-bring-clause-room : goal.returns-in-Err-bring-clause-room
returns-in-Err-bring-clause-room g c = λ w m entry past at next within.
    subst (IsStepLack entry past m w) (sym c.from-in-Err-bring.ensures)
    (copy_lacks entry past c.args.self.now.held m w within (g.H.Host.state c.step_for.new.host) (g.H.Host.state c.bring.new.host) c.in-Some-Copy.brought c.in-Err-bring.off
    (record { unplaced = (subst (IsReady c.args.self.now.held.numbers) (c.in-Some-Copy.is ∙ ap Some c.in-Some-Copy.field-0-is) c.in-Ok.ensures.ready).is.unplaced; event = (subst (IsReady c.args.self.now.held.numbers) (c.in-Some-Copy.is ∙ ap Some c.in-Some-Copy.field-0-is) c.in-Ok.ensures.ready).is.event; applies = (subst (IsReady c.args.self.now.held.numbers) (c.in-Some-Copy.is ∙ ap Some c.in-Some-Copy.field-0-is) c.in-Ok.ensures.ready).applies c.args.self.now.held.journal.format })
    (copy_brings w c.in-Some-Copy.brought (subst (IsNextOf w) (c.in-Some-Copy.is ∙ ap Some c.in-Some-Copy.field-0-is) (c.in-Ok.ensures.world w at)) m next) c.in-Err-bring.ensures.why)

-- ---- a flip

pub record_flip-requires-clause-applies : goal.record_flip-requires-clause-applies
record_flip-requires-clause-applies g c =
    (subst (IsReady c.args.self.now.held.numbers) (c.in-Some-Flip.is ∙ ap Some c.in-Some-Flip.field-0-is) c.in-Ok.ensures.ready).applies c.args.self.now.held.journal.format

pub returns-in-Ok-record_flip-clause-done : goal.returns-in-Ok-record_flip-clause-done
returns-in-Ok-record_flip-clause-done g c =
    subst (IsStepped (g.H.Host.state c.args.host.now) c.args.self.now.held c.record_flip.new.self.held) (sym c.flip_answer-answer.ensures)
    (flip_done (g.H.Host.state c.args.host.now) c.args.self.now.held c.record_flip.new.self.held c.in-Some-Flip.cvd (record { ready = (subst (IsReady c.args.self.now.held.numbers) (c.in-Some-Flip.is ∙ ap Some c.in-Some-Flip.field-0-is) c.in-Ok.ensures.ready); tested = λ told. subst (IsTested (page_bytes (g.H.Host.state c.args.host.now)) c.args.self.now.held.numbers) (c.in-Some-Flip.is ∙ ap Some c.in-Some-Flip.field-0-is) (c.in-Ok.ensures.answer told) }) c.in-Ok-record_flip.ensures.made)

pub returns-in-Ok-record_flip-clause-stops : goal.returns-in-Ok-record_flip-clause-stops
returns-in-Ok-record_flip-clause-stops g c = λ w m at next.
    subst (λ (tape : Tape). Only tape (g.H.Host.state c.record_flip.new.host).tape (IsEither w (moved m w) tape.disk.printed)) (c.step_for.ensures.looked.tape at.at.told)
    (c.record_flip.ensures.stops w m (looked_at w c.args.self.now.held (g.H.Host.state c.args.host.now) (g.H.Host.state c.step_for.new.host) c.step_for.ensures.looked at) (flip_asks w c.in-Some-Flip.cvd (subst (IsNextOf w) (c.in-Some-Flip.is ∙ ap Some c.in-Some-Flip.field-0-is) (c.in-Ok.ensures.world w at)) m next))

pub returns-in-Ok-record_flip-clause-moves : goal.returns-in-Ok-record_flip-clause-moves
returns-in-Ok-record_flip-clause-moves g c = λ w m at next.
    let after : IsAtNext (moved m w) c.record_flip.new.self.held (g.H.Host.state c.step_for.new.host) (g.H.Host.state c.record_flip.new.host)
    = c.in-Ok-record_flip.ensures.moves w m (looked_at w c.args.self.now.held (g.H.Host.state c.args.host.now) (g.H.Host.state c.step_for.new.host) c.step_for.ensures.looked at) (flip_asks w c.in-Some-Flip.cvd (subst (IsNextOf w) (c.in-Some-Flip.is ∙ ap Some c.in-Some-Flip.field-0-is) (c.in-Ok.ensures.world w at)) m next)
    in record { at = after.at; printed_same = after.printed_same ∙ ap (λ (tape : Tape). tape.disk.printed) (c.step_for.ensures.looked.tape at.at.told) }

pub returns-in-Ok-record_flip-clause-stepped : goal.returns-in-Ok-record_flip-clause-stepped
returns-in-Ok-record_flip-clause-stepped g c = λ w at.
    subst (IsAnswer w (next_step w)) (sym c.flip_answer-answer.ensures)
    (flip_answers w c.args.self.now.held (g.H.Host.state c.args.host.now) at c.in-Some-Flip.cvd (subst (IsReady c.args.self.now.held.numbers) (c.in-Some-Flip.is ∙ ap Some c.in-Some-Flip.field-0-is) c.in-Ok.ensures.ready) (subst (IsNextOf w) (c.in-Some-Flip.is ∙ ap Some c.in-Some-Flip.field-0-is) (c.in-Ok.ensures.world w at)))

pub returns-in-Ok-record_flip-clause-fewer : goal.returns-in-Ok-record_flip-clause-fewer
returns-in-Ok-record_flip-clause-fewer g c = λ w at some.
    let is = flip_next w c.in-Some-Flip.cvd (subst (IsNextOf w) (c.in-Some-Flip.is ∙ ap Some c.in-Some-Flip.field-0-is) (c.in-Ok.ensures.world w at))
    in let now = looked_at w c.args.self.now.held (g.H.Host.state c.args.host.now) (g.H.Host.state c.step_for.new.host) c.step_for.ensures.looked at
    in one_less w is.0 c.args.self.now.held c.record_flip.new.self.held (g.H.Host.state c.args.host.now) (g.H.Host.state c.step_for.new.host) (g.H.Host.state c.record_flip.new.host) at is.1
    (c.in-Ok-record_flip.ensures.moves w is.0 now (flip_asks w c.in-Some-Flip.cvd (subst (IsNextOf w) (c.in-Some-Flip.is ∙ ap Some c.in-Some-Flip.field-0-is) (c.in-Ok.ensures.world w at)) is.0 is.1))

pub returns-in-Ok-record_flip-clause-room : goal.returns-in-Ok-record_flip-clause-room
returns-in-Ok-record_flip-clause-room g c = λ w m entry past at next within.
    let now = looked_at w c.args.self.now.held (g.H.Host.state c.args.host.now) (g.H.Host.state c.step_for.new.host) c.step_for.ensures.looked at
    in let asks = flip_asks w c.in-Some-Flip.cvd (subst (IsNextOf w) (c.in-Some-Flip.is ∙ ap Some c.in-Some-Flip.field-0-is) (c.in-Ok.ensures.world w at)) m next
    in within_recorded entry past c.args.self.now.held c.record_flip.new.self.held m w (says.Flip c.in-Some-Flip.cvd) within tt asks c.in-Ok-record_flip.ensures.made (c.in-Ok-record_flip.ensures.grows w now)
    (same_epoch w m c.args.self.now.held c.record_flip.new.self.held (g.H.Host.state c.step_for.new.host) (g.H.Host.state c.record_flip.new.host) (asks_other m w _ asks) asks.fits now (c.in-Ok-record_flip.ensures.moves w m now asks))

-- ---- a flip that isn't recorded

pub returns-in-Err-record_flip-clause-stops : goal.returns-in-Err-record_flip-clause-stops
returns-in-Err-record_flip-clause-stops g c = λ w m at next.
    subst (λ (tape : Tape). Only tape (g.H.Host.state c.record_flip.new.host).tape (IsEither w (moved m w) tape.disk.printed)) (c.step_for.ensures.looked.tape at.at.told)
    (c.record_flip.ensures.stops w m (looked_at w c.args.self.now.held (g.H.Host.state c.args.host.now) (g.H.Host.state c.step_for.new.host) c.step_for.ensures.looked at) (flip_asks w c.in-Some-Flip.cvd (subst (IsNextOf w) (c.in-Some-Flip.is ∙ ap Some c.in-Some-Flip.field-0-is) (c.in-Ok.ensures.world w at)) m next))

pub returns-in-Err-record_flip-clause-begins_none : goal.returns-in-Err-record_flip-clause-begins_none
returns-in-Err-record_flip-clause-begins_none g c = λ w at. subst (IsWanting w) (sym c.from-in-Err-record_flip.ensures) (made_wants w c.in-Err-record_flip.off (flip_next w c.in-Some-Flip.cvd (subst (IsNextOf w) (c.in-Some-Flip.is ∙ ap Some c.in-Some-Flip.field-0-is) (c.in-Ok.ensures.world w at))))

pub returns-in-Err-record_flip-clause-room : goal.returns-in-Err-record_flip-clause-room
returns-in-Err-record_flip-clause-room g c = λ w m entry past at next within.
    subst (IsStepLack entry past m w) (sym c.from-in-Err-record_flip.ensures)
    (flip_lacks entry past c.args.self.now.held m w within (g.H.Host.state c.step_for.new.host) (g.H.Host.state c.record_flip.new.host) c.in-Some-Flip.cvd c.in-Err-record_flip.off
    (flip_asks w c.in-Some-Flip.cvd (subst (IsNextOf w) (c.in-Some-Flip.is ∙ ap Some c.in-Some-Flip.field-0-is) (c.in-Ok.ensures.world w at)) m next) c.in-Err-record_flip.ensures.why)
