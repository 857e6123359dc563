use Rattle.std.proofs.Common.{◌≡◌, ◌∙◌, inr, ℕ, sym, ap, subst}
use Rattle.std.specs.Prelude.{Err, IfErr, Result}
use Rattle.ov_host.specs.declared.area.Extent.{Extent}
use Rattle.ov_catalog.specs.Numbers.{Numbers}
use Rattle.ov_catalog.specs.Steps.{steps_left}
use Rattle.law_runs.specs.Serving.{Does}
use Rattle.ov_model.specs.Deed.{permitted}
use Rattle.ov_model.specs.declared.command.Command.TheVariants as asks
use Rattle.ov_model.specs.declared.reply.Reply.{Reply}
use Rattle.ov_session.proofs.Migrating.{cut_breaks, migrated_none, migrated_seen, no_ran, ran_does}
use Rattle.ov_session.proofs.Taking.{end_is, err_is, ran_at}
use Rattle.ov_session.specs.Commands.{Acts, IsNoDamage}
use Rattle.ov_session.specs.Stepping.{migrated}
use Rattle.ov_session.specs.declared.errors.EndErr.{EndErr}
use Rattle.ov_session.specs.declared.errors.EndErr.TheVariants as ending
use Rattle.ov_session.specs.declared.stepping.Ran.{Ran}
use Rattle.ov_store.specs.Kept.{Kept}
use Rattle.ov_session.proofs.planning.migrate.Goals as goal

-- what is told, by what the store keeps then
left_is : (told : Reply) (left : ℕ) (n m : Numbers Extent Extent) (ran : Ran) → told ≡ migrated ran left → left ≡ steps_left n → n ≡ m → told ≡ migrated ran (steps_left m)
left_is told left n m ran is counted same = is ∙ ap (migrated ran) (counted ∙ ap (λ (x : Numbers Extent Extent). steps_left x) same)

pub returns-clause-none : goal.returns-clause-none
returns-clause-none g c = λ none.
    let still = c.in_ok-ran.ensures.none (inr none)
    in (migrated_none c.in_ok-ran.ran c.args.store.now.held.numbers c.run_steps.new.store.held.numbers c.told.result still.0 (ap (λ (k : Kept). k.held.numbers) still.1) none (left_is c.told.result c.steps_left.result c.catalog.result.now.numbers c.run_steps.new.store.held.numbers c.in_ok-ran.ran c.told.ensures c.steps_left.ensures c.catalog.ensures), still.1, still.2)

pub returns-in_err-ran-clause-none : goal.returns-in_err-ran-clause-none
returns-in_err-ran-clause-none g c = λ none. absurd (no_ran c.in_err-ran.field-0.0 (c.in_err-ran.ensures.none (inr none)).0)

pub returns-clause-unread : goal.returns-clause-unread
returns-clause-unread g c = λ none. (c.run_steps.ensures.none none).2

pub returns-in_err-ran-clause-unread : goal.returns-in_err-ran-clause-unread
returns-in_err-ran-clause-unread g c = λ none. (c.run_steps.ensures.none none).2

pub returns-in_err-ran-clause-undamaged : goal.returns-in_err-ran-clause-undamaged
returns-in_err-ran-clause-undamaged g c = λ w at.
    let is = err_is c.from_residual.result c.in_err-ran.field-0.0 c.from_residual.ensures.0 c.from_residual.ensures.1
    in subst (λ (q : Result Reply EndErr). IfErr q IsNoDamage) (sym is) (c.in_err-ran.ensures.undamaged w at)

pub returns-in_err-ran-clause-by_journal : goal.returns-in_err-ran-clause-by_journal
returns-in_err-ran-clause-by_journal g c = λ by fine.
    let is = err_is c.from_residual.result c.in_err-ran.field-0.0 c.from_residual.ensures.0 c.from_residual.ensures.1
    in c.in_err-ran.ensures.by_journal by (λ e. fine (is ∙ ap Err (end_is c.in_err-ran.field-0.0 ending.Host e)))

pub returns-clause-by_journal : goal.returns-clause-by_journal
returns-clause-by_journal g c = λ by fine. c.in_ok-ran.ensures.by_journal by (λ e. cc)

pub returns-clause-at : goal.returns-clause-at
returns-clause-at g c = λ w at. ran_at c.args.count w c.in_ok-ran.ran c.args.store.now.held c.run_steps.new.store.held (g.H.Host.state c.args.host.now) (g.H.Host.state c.run_steps.new.host) (c.in_ok-ran.ensures.ran w at)

pub returns-clause-seen : goal.returns-clause-seen
returns-clause-seen g c = migrated_seen c.in_ok-ran.ran c.steps_left.result c.told.result c.told.ensures

pub returns-clause-acts : goal.returns-clause-acts
returns-clause-acts g c = λ w s at.
    subst (λ (r : Reply). Does (permitted w s (asks.Migrate c.args.count)) s s w r c.args.store.now.held c.run_steps.new.store.held (g.H.Host.state c.args.host.now) (g.H.Host.state c.run_steps.new.host)) (sym (left_is c.told.result c.steps_left.result c.catalog.result.now.numbers c.run_steps.new.store.held.numbers c.in_ok-ran.ran c.told.ensures c.steps_left.ensures c.catalog.ensures))
    (ran_does c.args.count w s c.args.store.now.held (g.H.Host.state c.args.host.now) c.in_ok-ran.ran c.run_steps.new.store.held (g.H.Host.state c.run_steps.new.host) (c.in_ok-ran.ensures.ran w at))

pub returns-in_err-ran-clause-acts : goal.returns-in_err-ran-clause-acts
returns-in_err-ran-clause-acts g c = λ w s at.
    let is = err_is c.from_residual.result c.in_err-ran.field-0.0 c.from_residual.ensures.0 c.from_residual.ensures.1
    in subst (λ (q : Result Reply EndErr). Acts (permitted w s (asks.Migrate c.args.count)) s s w q c.args.store.now.held c.run_steps.new.store.held (g.H.Host.state c.args.host.now) (g.H.Host.state c.run_steps.new.host)) (sym is)
    (cut_breaks c.args.count w s c.args.store.now.held (g.H.Host.state c.args.host.now) (g.H.Host.state c.run_steps.new.host) (c.in_err-ran.ensures.ran w at))
