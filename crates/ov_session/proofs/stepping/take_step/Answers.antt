use Rattle.std.proofs.Common.{◌∙◌, sym, ap, subst}
use Rattle.std.specs.Prelude.{IfErr, IsErrOf, OnOk, Result}
use Rattle.ov_store.specs.Kept.{MayCall}
use Rattle.ov_session.specs.Commands.{IsDamageOf, IsNoDamage}
use Rattle.ov_session.specs.Stepping.{IsStep, IsStepDamaged, by_step}
use Rattle.ov_session.specs.declared.errors.EndErr.{EndErr}
use Rattle.ov_session.specs.declared.errors.EndErr.TheVariants as ending
use Rattle.ov_session.specs.declared.stepping.Turn.{Turn}
use Rattle.ov_session.proofs.Taking.{step_alone, step_at, step_cause, step_damaged, step_journal, step_undamaged, step_usable}
use Rattle.ov_session.proofs.stepping.take_step.Goals as goal

pub returns-clause-goes : goal.returns-clause-goes
returns-clause-goes g c = record {
  told = c.step.ensures.told;
  kept = c.step.ensures.kept;
  faults = c.step.ensures.faults;
  fetched = c.step.ensures.counted;
}

pub returns-clause-cause : goal.returns-clause-cause
returns-clause-cause g c = λ is.
    step_cause c.args.store.now c.step.new.self (g.H.Host.state c.args.host.now) (g.H.Host.state c.step.new.host) c.step.result c.step.ensures.why
    (subst (λ (q : Result Turn EndErr). IsErrOf q ending.Host) c.outcome.ensures is)

pub returns-clause-host_alone : goal.returns-clause-host_alone
returns-clause-host_alone g c = λ is. step_alone c.step.result (subst (λ (q : Result Turn EndErr). IsErrOf q ending.Stage) c.outcome.ensures is)

pub returns-clause-none : goal.returns-clause-none
returns-clause-none g c = λ none. let idle = c.step.ensures.idle none in (c.outcome.ensures ∙ ap by_step idle.0, idle.1, idle.2)

pub returns-clause-damaged : goal.returns-clause-damaged
returns-clause-damaged g c =
    subst (λ (q : Result Turn EndErr). IfErr q (IsDamageOf (IsStepDamaged 1 c.step.new.self.held (g.H.Host.state c.step.new.host)))) (sym c.outcome.ensures)
    (step_damaged c.args.store.now c.step.new.self (g.H.Host.state c.args.host.now) (g.H.Host.state c.step.new.host) c.step.result c.step.ensures.why c.step.ensures.stays)

pub returns-clause-undamaged : goal.returns-clause-undamaged
returns-clause-undamaged g c = λ w at.
    subst (λ (q : Result Turn EndErr). IfErr q IsNoDamage) (sym c.outcome.ensures) (step_undamaged c.step.result (c.step.ensures.spared w at))

pub returns-clause-usable : goal.returns-clause-usable
returns-clause-usable g c =
    subst (λ (q : Result Turn EndErr). OnOk q (MayCall c.step.new.self (g.H.Host.state c.step.new.host))) (sym c.outcome.ensures)
    (step_usable c.args.store.now c.step.new.self (g.H.Host.state c.args.host.now) (g.H.Host.state c.step.new.host) c.step.result c.step.ensures.usable c.step.ensures.stays c.requires.call)

pub returns-clause-by_journal : goal.returns-clause-by_journal
returns-clause-by_journal g c = λ by fine.
    step_journal c.args.store.now c.step.new.self (g.H.Host.state c.args.host.now) (g.H.Host.state c.step.new.host) c.step.result (c.step.ensures.by_journal by) c.step.ensures.stays by
    (λ is. fine (subst (λ (q : Result Turn EndErr). IsErrOf q ending.Host) (sym c.outcome.ensures) is))

pub returns-clause-step : goal.returns-clause-step
returns-clause-step g c = λ w at.
    subst (λ (q : Result Turn EndErr). IsStep w q c.args.store.now.held c.step.new.self.held (g.H.Host.state c.args.host.now) (g.H.Host.state c.step.new.host)) (sym c.outcome.ensures)
    (step_at w c.args.store.now c.step.new.self (g.H.Host.state c.args.host.now) (g.H.Host.state c.step.new.host) at (λ m is. c.step.ensures.stops w m at is)
    c.step.result c.step.ensures.idle c.step.ensures.nothing (c.step.ensures.stepped w at) c.step.ensures.stays
    (λ m is. c.step.ensures.moves w m at is) (λ m entry past is within. c.step.ensures.room w m entry past at is within))
