use Rattle.std.proofs.Common.{◌∙◌, refl, sym, ap, subst}
use Rattle.std.specs.Prelude.{Err, IfErr, Result, is_ok}
use Rattle.law_runs.specs.Stepping.{IsStepped}
use Rattle.ov_session.proofs.Taking.{cut_stepped, end_is, err_is, ran_at, ran_stepped}
use Rattle.ov_session.specs.Commands.{IsNoDamage}
use Rattle.ov_session.specs.declared.errors.EndErr.{EndErr}
use Rattle.ov_session.specs.declared.errors.EndErr.TheVariants as ending
use Rattle.ov_session.proofs.stepping.take_steps.Goals as goal

pub returns-clause-none : goal.returns-clause-none
returns-clause-none g c = λ none. let still = c.run_steps.ensures.none none in (refl, still.1, still.2)

pub returns-clause-at : goal.returns-clause-at
returns-clause-at g c = λ w at.
    ran_at c.args.steps w c.in_ok-run_steps.field-0 c.args.store.now.held c.run_steps.new.store.held (g.H.Host.state c.args.host.now) (g.H.Host.state c.run_steps.new.host) (c.in_ok-run_steps.ensures.ran w at)

pub returns-clause-stepped : goal.returns-clause-stepped
returns-clause-stepped g c = λ w at.
    ran_stepped c.args.steps w c.args.store.now.held (g.H.Host.state c.args.host.now) c.in_ok-run_steps.field-0 c.run_steps.new.store.held (g.H.Host.state c.run_steps.new.host) (c.in_ok-run_steps.ensures.ran w at)

pub returns-in_err-run_steps-clause-undamaged : goal.returns-in_err-run_steps-clause-undamaged
returns-in_err-run_steps-clause-undamaged g c = λ w at.
    let is = err_is c.from_residual.result c.in_err-run_steps.field-0.0 c.from_residual.ensures.0 c.from_residual.ensures.1
    in subst (λ (q : Result (Unit {0}) EndErr). IfErr q IsNoDamage) (sym is) (c.in_err-run_steps.ensures.undamaged w at)

pub returns-in_err-run_steps-clause-by_journal : goal.returns-in_err-run_steps-clause-by_journal
returns-in_err-run_steps-clause-by_journal g c = λ by fine.
    let is = err_is c.from_residual.result c.in_err-run_steps.field-0.0 c.from_residual.ensures.0 c.from_residual.ensures.1
    in c.in_err-run_steps.ensures.by_journal by (λ e. fine (is ∙ ap Err (end_is c.in_err-run_steps.field-0.0 ending.Host e)))

pub returns-in_err-run_steps-clause-stepped : goal.returns-in_err-run_steps-clause-stepped
returns-in_err-run_steps-clause-stepped g c = λ w at.
    let is = err_is c.from_residual.result c.in_err-run_steps.field-0.0 c.from_residual.ensures.0 c.from_residual.ensures.1
    in subst (λ (q : Result (Unit {0}) EndErr). IsStepped c.args.steps w (is_ok q) c.args.store.now.held c.run_steps.new.store.held (g.H.Host.state c.args.host.now) (g.H.Host.state c.run_steps.new.host)) (sym is)
    (cut_stepped c.args.steps w c.args.store.now.held (g.H.Host.state c.args.host.now) c.run_steps.new.store.held (g.H.Host.state c.run_steps.new.host) (c.in_err-run_steps.ensures.ran w at))
