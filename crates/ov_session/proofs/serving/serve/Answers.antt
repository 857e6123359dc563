use Rattle.std.proofs.Common.{◌≡◌, ◌∙◌, true, false, refl, sym, ap, subst, arith}
use Rattle.std.specs.Prelude.{Err, IfErr, Result, is_ok}
use Rattle.ov_model.specs.Forms.{all_forms}
use Rattle.ov_host.specs.Host.{State}
use Rattle.law_runs.specs.Serving.{Serves, session_of}
use Rattle.ov_store.specs.Kept.{Kept}
use Rattle.ov_session.specs.Asking.{line_asked}
use Rattle.ov_session.specs.Commands.{IsDamageOf, IsNoDamage, is_comment_of, is_refusal_of, is_refused}
use Rattle.ov_session.specs.Damages.{IsMetBy}
use Rattle.ov_session.specs.Standing.{IsIdleOn}
use Rattle.ov_session.specs.declared.errors.EndErr.{EndErr}
use Rattle.ov_session.specs.declared.errors.EndErr.TheVariants as ending
use Rattle.ov_session.specs.declared.serving.Served.{Served}
use Rattle.ov_session.proofs.Bounds.{printed_line}
use Rattle.ov_session.proofs.Taking.{end_is, err_is}
use Rattle.ov_session.proofs.Following.{behind_damaged, behind_done, ends_same, fetched_then, line_met, no_end, no_line, no_step, replied_none, replied_then, rose_behind, serves_halted, serves_none, serves_off, serves_steps, some_line, step_met}
use Rattle.ov_session.proofs.Acting.{either_next, next_again}
use Rattle.ov_session.specs.Acting.{IsNextUser}
use Rattle.ov_session.proofs.serving.serve.Goals as goal

pub returns-in_err-served-clause-user : goal.returns-in_err-served-clause-user
returns-in_err-served-clause-user g c =
    let is = err_is c.from_residual.result c.in_err-served.field-0.0 c.from_residual.ensures.0 c.from_residual.ensures.1
    in next_again (line_asked c.args.user.now c.args.line.now) (Err c.in_err-served.field-0.0) c.from_residual.result c.in_err-served.field-0.0 c.in_err-served.field-0.0
    c.args.user.now c.serve_line.new.user refl is c.in_err-served.ensures.user

pub returns-then-is_comment-clause-user : goal.returns-then-is_comment-clause-user
returns-then-is_comment-clause-user g c = c.in_ok-served.ensures.user

pub returns-in_err-take_steps-clause-user : goal.returns-in_err-take_steps-clause-user
returns-in_err-take_steps-clause-user g c =
    let l = line_asked c.args.user.now c.args.line.now
    in let is = err_is c.from_residual-in_err-take_steps.result c.in_err-take_steps.field-0.0 c.from_residual-in_err-take_steps.ensures.0 c.from_residual-in_err-take_steps.ensures.1
    in subst (λ (r : Result Served EndErr). IsNextUser l r c.args.user.now c.serve_line.new.user) (sym is)
    (either_next l c.in_ok-served.served c.args.user.now c.serve_line.new.user c.in_ok-served.ensures.user)

pub returns-clause-user : goal.returns-clause-user
returns-clause-user g c = c.in_ok-served.ensures.user

pub returns-in_err-served-clause-damaged : goal.returns-in_err-served-clause-damaged
returns-in_err-served-clause-damaged g c =
    let is = err_is c.from_residual.result c.in_err-served.field-0.0 c.from_residual.ensures.0 c.from_residual.ensures.1
    in subst (λ (r : Result Served EndErr). IfErr r (IsDamageOf (IsMetBy c.args.steps c.args.user.now (line_asked c.args.user.now c.args.line.now) c.args.store.now c.serve_line.new.store (g.T.Stage.staged c.args.stage.now) (g.T.Stage.staged c.serve_line.new.stage) (g.H.Host.state c.args.host.now) (g.H.Host.state c.serve_line.new.host)))) (sym is)
    (line_met c.args.steps c.args.user.now (line_asked c.args.user.now c.args.line.now) c.args.store.now c.serve_line.new.store (g.T.Stage.staged c.args.stage.now) (g.T.Stage.staged c.serve_line.new.stage) (g.H.Host.state c.args.host.now) (g.H.Host.state c.serve_line.new.host) c.in_err-served.field-0.0 c.in_err-served.ensures.damaged c.in_err-served.ensures.idle)

pub returns-in_err-served-clause-idle : goal.returns-in_err-served-clause-idle
returns-in_err-served-clause-idle g c = λ e.
    let is = err_is c.from_residual.result c.in_err-served.field-0.0 c.from_residual.ensures.0 c.from_residual.ensures.1
    in let stage = ends_same c.from_residual.result c.in_err-served.field-0.0 ending.Stage is e
    in subst (λ (x : EndErr). IsIdleOn (line_asked c.args.user.now c.args.line.now) x c.args.store.now c.serve_line.new.store (g.T.Stage.staged c.args.stage.now) (g.T.Stage.staged c.serve_line.new.stage) (g.H.Host.state c.args.host.now) (g.H.Host.state c.serve_line.new.host)) stage c.in_err-served.ensures.idle

pub returns-in_err-served-clause-undamaged : goal.returns-in_err-served-clause-undamaged
returns-in_err-served-clause-undamaged g c = λ w at.
    let is = err_is c.from_residual.result c.in_err-served.field-0.0 c.from_residual.ensures.0 c.from_residual.ensures.1
    in subst (λ (r : Result Served EndErr). IfErr r IsNoDamage) (sym is) (c.in_err-served.ensures.undamaged w at)

pub returns-in_err-served-clause-by_journal : goal.returns-in_err-served-clause-by_journal
returns-in_err-served-clause-by_journal g c = λ by fine.
    let is = err_is c.from_residual.result c.in_err-served.field-0.0 c.from_residual.ensures.0 c.from_residual.ensures.1
    in c.in_err-served.ensures.by_journal by (λ e. fine (is ∙ ap Err (end_is c.in_err-served.field-0.0 ending.Host e)))

pub returns-in_err-served-clause-still : goal.returns-in_err-served-clause-still
returns-in_err-served-clause-still g c = λ none reads. c.serve_line.ensures.still reads

pub returns-in_err-served-clause-fetched : goal.returns-in_err-served-clause-fetched
returns-in_err-served-clause-fetched g c = λ none.
    let is = err_is c.from_residual.result c.in_err-served.field-0.0 c.from_residual.ensures.0 c.from_residual.ensures.1
    in printed_line c.args.user.now (line_asked c.args.user.now c.args.line.now) c.args.store.now.held c.serve_line.new.store.held _ _ (g.H.Host.state c.args.host.now) (g.H.Host.state c.serve_line.new.host) (g.H.Host.state c.serve_line.new.host)
    (λ e. is ∙ ap Err (end_is c.in_err-served.field-0.0 ending.Host e)) refl c.in_err-served.ensures.fetched

pub returns-in_err-served-clause-unread : goal.returns-in_err-served-clause-unread
returns-in_err-served-clause-unread g c = λ none off. c.serve_line.ensures.unread off

pub returns-in_err-served-clause-serves : goal.returns-in_err-served-clause-serves
returns-in_err-served-clause-serves g c = λ w told at.
    let s = session_of (g.T.Stage.staged c.args.stage.now).files c.args.user.now
    in let t = session_of (g.T.Stage.staged c.serve_line.new.stage).files c.serve_line.new.user
    in let is = err_is c.from_residual.result c.in_err-served.field-0.0 c.from_residual.ensures.0 c.from_residual.ensures.1
    in let line : Serves all_forms 0 w s t c.args.line.now false false c.args.store.now.held c.serve_line.new.store.held (g.H.Host.state c.args.host.now) (g.H.Host.state c.serve_line.new.host) = c.in_err-served.ensures.serves w told at
    in subst (λ (r : Result Served EndErr). Serves all_forms c.args.steps w s t c.args.line.now (is_ok r) (is_refused r) c.args.store.now.held c.serve_line.new.store.held (g.H.Host.state c.args.host.now) (g.H.Host.state c.serve_line.new.host)) (sym is)
    (serves_off c.args.steps w s t c.args.line.now c.args.store.now.held c.serve_line.new.store.held (g.H.Host.state c.args.host.now) (g.H.Host.state c.serve_line.new.host) line)

pub returns-then-is_comment-clause-still : goal.returns-then-is_comment-clause-still
returns-then-is_comment-clause-still g c = λ none reads. c.serve_line.ensures.still reads

pub returns-then-is_comment-clause-fetched : goal.returns-then-is_comment-clause-fetched
returns-then-is_comment-clause-fetched g c = λ none.
    printed_line c.args.user.now (line_asked c.args.user.now c.args.line.now) c.args.store.now.held c.serve_line.new.store.held _ _ (g.H.Host.state c.args.host.now) (g.H.Host.state c.serve_line.new.host) (g.H.Host.state c.serve_line.new.host)
    (λ e. absurd (no_end c.in_ok-served.served ending.Host e)) refl c.in_ok-served.ensures.fetched

pub returns-then-is_comment-clause-unread : goal.returns-then-is_comment-clause-unread
returns-then-is_comment-clause-unread g c = λ none off. c.serve_line.ensures.unread off

pub returns-then-is_comment-clause-by_journal : goal.returns-then-is_comment-clause-by_journal
returns-then-is_comment-clause-by_journal g c = λ by fine. c.in_ok-served.ensures.by_journal by (λ e. cc)

pub returns-then-is_comment-clause-at : goal.returns-then-is_comment-clause-at
returns-then-is_comment-clause-at g c = λ w at. c.in_ok-served.ensures.at w at

pub returns-then-is_comment-clause-whole : goal.returns-then-is_comment-clause-whole
returns-then-is_comment-clause-whole g c = λ command page asked told. c.in_ok-served.ensures.whole command page asked told

pub returns-then-is_comment-clause-replied : goal.returns-then-is_comment-clause-replied
returns-then-is_comment-clause-replied g c =
    let none : is_comment_of c.in_ok-served.served ≡ true = sym c.is_comment.ensures ∙ c.if-is_comment.true
    in replied_none c.args.steps (line_asked c.args.user.now c.args.line.now) c.args.store.now.held (g.T.Stage.staged c.args.stage.now) (g.T.Stage.staged c.serve_line.new.stage) (g.H.Host.state c.args.host.now) (g.H.Host.state c.serve_line.new.host) (g.H.Host.state c.serve_line.new.host) c.in_ok-served.served none c.in_ok-served.ensures.replied

pub returns-then-is_comment-clause-serves : goal.returns-then-is_comment-clause-serves
returns-then-is_comment-clause-serves g c = λ w told at.
    let s = session_of (g.T.Stage.staged c.args.stage.now).files c.args.user.now
    in let t = session_of (g.T.Stage.staged c.serve_line.new.stage).files c.serve_line.new.user
    in let none : is_comment_of c.in_ok-served.served ≡ true = sym c.is_comment.ensures ∙ c.if-is_comment.true
    in let line : Serves all_forms 0 w s t c.args.line.now true (is_refusal_of c.in_ok-served.served) c.args.store.now.held c.serve_line.new.store.held (g.H.Host.state c.args.host.now) (g.H.Host.state c.serve_line.new.host) = c.in_ok-served.ensures.serves w told at
    in serves_none c.args.steps w s t c.args.line.now true (is_refusal_of c.in_ok-served.served) c.args.store.now.held c.serve_line.new.store.held (g.H.Host.state c.args.host.now) (g.H.Host.state c.serve_line.new.host) (no_line c.args.user.now c.args.line.now (sym c.in_ok-served.ensures.comment ∙ none)) line

pub returns-in_err-take_steps-clause-goes : goal.returns-in_err-take_steps-clause-goes
returns-in_err-take_steps-clause-goes g c = record {
  told = c.take_steps.ensures.goes.told ∙ c.serve_line.ensures.goes.told;
  kept = c.take_steps.ensures.goes.kept ∙ c.serve_line.ensures.goes.kept;
  faults = omega (arith, c.serve_line.ensures.goes.faults, c.take_steps.ensures.goes.faults);
  fetched = omega (arith, c.serve_line.ensures.goes.fetched, c.take_steps.ensures.goes.fetched);
}

pub returns-in_err-take_steps-clause-still : goal.returns-in_err-take_steps-clause-still
returns-in_err-take_steps-clause-still g c = λ none reads.
    ap (λ (k : Kept). k.held) (c.take_steps.ensures.none (no_step c.args.steps (line_asked c.args.user.now c.args.line.now) c.args.store.now.held c.serve_line.new.store.held c.in_ok-served.ensures.begins_none none)).1 ∙ c.serve_line.ensures.still reads

pub returns-in_err-take_steps-clause-fetched : goal.returns-in_err-take_steps-clause-fetched
returns-in_err-take_steps-clause-fetched g c = λ none.
    fetched_then c.args.user.now (line_asked c.args.user.now c.args.line.now) c.args.store.now.held c.serve_line.new.store c.take_steps.new.store _ _ (g.H.Host.state c.args.host.now) (g.H.Host.state c.serve_line.new.host) (g.H.Host.state c.take_steps.new.host)
    (λ e. absurd (no_end c.in_ok-served.served ending.Host e)) ((c.take_steps.ensures.none (no_step c.args.steps (line_asked c.args.user.now c.args.line.now) c.args.store.now.held c.serve_line.new.store.held c.in_ok-served.ensures.begins_none none)).1, (c.take_steps.ensures.none (no_step c.args.steps (line_asked c.args.user.now c.args.line.now) c.args.store.now.held c.serve_line.new.store.held c.in_ok-served.ensures.begins_none none)).2) c.in_ok-served.ensures.fetched

pub returns-in_err-take_steps-clause-unread : goal.returns-in_err-take_steps-clause-unread
returns-in_err-take_steps-clause-unread g c = λ none off.
    ap (λ (s : State). s.fetched) (c.take_steps.ensures.none (no_step c.args.steps (line_asked c.args.user.now c.args.line.now) c.args.store.now.held c.serve_line.new.store.held c.in_ok-served.ensures.begins_none none)).2 ∙ c.serve_line.ensures.unread off

pub returns-in_err-take_steps-clause-cause : goal.returns-in_err-take_steps-clause-cause
returns-in_err-take_steps-clause-cause g c = λ e.
    let is = err_is c.from_residual-in_err-take_steps.result c.in_err-take_steps.field-0.0 c.from_residual-in_err-take_steps.ensures.0 c.from_residual-in_err-take_steps.ensures.1
    in let rose = c.in_err-take_steps.ensures.cause (ap Err (ends_same c.from_residual-in_err-take_steps.result c.in_err-take_steps.field-0.0 ending.Host is e))
    in rose_behind (g.H.Host.state c.args.host.now) (g.H.Host.state c.serve_line.new.host) (g.H.Host.state c.take_steps.new.host) c.serve_line.ensures.goes.faults rose

pub returns-in_err-take_steps-clause-stage : goal.returns-in_err-take_steps-clause-stage
returns-in_err-take_steps-clause-stage g c = λ e.
    let is = err_is c.from_residual-in_err-take_steps.result c.in_err-take_steps.field-0.0 c.from_residual-in_err-take_steps.ensures.0 c.from_residual-in_err-take_steps.ensures.1
    in absurd (c.in_err-take_steps.ensures.host_alone (ap Err (ends_same c.from_residual-in_err-take_steps.result c.in_err-take_steps.field-0.0 ending.Stage is e)))

pub returns-in_err-take_steps-clause-idle : goal.returns-in_err-take_steps-clause-idle
returns-in_err-take_steps-clause-idle g c = λ e.
    let is = err_is c.from_residual-in_err-take_steps.result c.in_err-take_steps.field-0.0 c.from_residual-in_err-take_steps.ensures.0 c.from_residual-in_err-take_steps.ensures.1
    in absurd (c.in_err-take_steps.ensures.host_alone (ap Err (ends_same c.from_residual-in_err-take_steps.result c.in_err-take_steps.field-0.0 ending.Stage is e)))

pub returns-in_err-take_steps-clause-by_journal : goal.returns-in_err-take_steps-clause-by_journal
returns-in_err-take_steps-clause-by_journal g c = λ by fine.
    let is = err_is c.from_residual-in_err-take_steps.result c.in_err-take_steps.field-0.0 c.from_residual-in_err-take_steps.ensures.0 c.from_residual-in_err-take_steps.ensures.1
    in c.in_err-take_steps.ensures.by_journal (c.in_ok-served.ensures.by_journal by (λ e. cc)) (λ e. fine (is ∙ ap Err (end_is c.in_err-take_steps.field-0.0 ending.Host e)))

pub returns-in_err-take_steps-clause-undamaged : goal.returns-in_err-take_steps-clause-undamaged
returns-in_err-take_steps-clause-undamaged g c = λ w at.
    let on = c.in_ok-served.ensures.at w at
    in let is = err_is c.from_residual-in_err-take_steps.result c.in_err-take_steps.field-0.0 c.from_residual-in_err-take_steps.ensures.0 c.from_residual-in_err-take_steps.ensures.1
    in subst (λ (r : Result Served EndErr). IfErr r IsNoDamage) (sym is) (c.in_err-take_steps.ensures.undamaged on.0 on.1)

pub returns-in_err-take_steps-clause-damaged : goal.returns-in_err-take_steps-clause-damaged
returns-in_err-take_steps-clause-damaged g c =
    let is = err_is c.from_residual-in_err-take_steps.result c.in_err-take_steps.field-0.0 c.from_residual-in_err-take_steps.ensures.0 c.from_residual-in_err-take_steps.ensures.1
    in let some : is_comment_of c.in_ok-served.served ≡ false = sym c.is_comment.ensures ∙ c.if-is_comment.false
    in subst (λ (r : Result Served EndErr). IfErr r (IsDamageOf (IsMetBy c.args.steps c.args.user.now (line_asked c.args.user.now c.args.line.now) c.args.store.now c.take_steps.new.store (g.T.Stage.staged c.args.stage.now) (g.T.Stage.staged c.serve_line.new.stage) (g.H.Host.state c.args.host.now) (g.H.Host.state c.take_steps.new.host)))) (sym is)
    (step_met c.args.steps c.args.user.now (line_asked c.args.user.now c.args.line.now) c.args.store.now c.take_steps.new.store (g.T.Stage.staged c.args.stage.now) (g.T.Stage.staged c.serve_line.new.stage) (g.H.Host.state c.args.host.now) (g.H.Host.state c.take_steps.new.host) c.in_ok-served.served some c.in_err-take_steps.field-0.0 c.in_err-take_steps.ensures.damaged
    (λ harm. replied_then c.args.steps (line_asked c.args.user.now c.args.line.now) c.args.store.now.held (g.T.Stage.staged c.args.stage.now) (g.T.Stage.staged c.serve_line.new.stage) (g.H.Host.state c.args.host.now) (g.H.Host.state c.serve_line.new.host) (g.H.Host.state c.take_steps.new.host) c.in_ok-served.served some c.in_ok-served.ensures.replied
    (behind_damaged c.args.steps (line_asked c.args.user.now c.args.line.now) c.args.store.now.held c.serve_line.new.store.held c.take_steps.new.store.held (g.H.Host.state c.args.host.now) (g.H.Host.state c.serve_line.new.host) (g.H.Host.state c.take_steps.new.host) c.take_steps.ensures.goes
    (λ none. (c.take_steps.ensures.none (no_step c.args.steps (line_asked c.args.user.now c.args.line.now) c.args.store.now.held c.serve_line.new.store.held c.in_ok-served.ensures.begins_none none)).2) (λ on. c.in_ok-served.ensures.at on.0 on.1) (λ w at. harm (c.in_err-take_steps.ensures.undamaged w at)))))

pub returns-in_err-take_steps-clause-serves : goal.returns-in_err-take_steps-clause-serves
returns-in_err-take_steps-clause-serves g c = λ w told at.
    let s = session_of (g.T.Stage.staged c.args.stage.now).files c.args.user.now
    in let t = session_of (g.T.Stage.staged c.serve_line.new.stage).files c.serve_line.new.user
    in let some : is_comment_of c.in_ok-served.served ≡ false = sym c.is_comment.ensures ∙ c.if-is_comment.false
    in let is = err_is c.from_residual-in_err-take_steps.result c.in_err-take_steps.field-0.0 c.from_residual-in_err-take_steps.ensures.0 c.from_residual-in_err-take_steps.ensures.1
    in let line : Serves all_forms 0 w s t c.args.line.now true (is_refusal_of c.in_ok-served.served) c.args.store.now.held c.serve_line.new.store.held (g.H.Host.state c.args.host.now) (g.H.Host.state c.serve_line.new.host) = c.in_ok-served.ensures.serves w told at
    in subst (λ (r : Result Served EndErr). Serves all_forms c.args.steps w s t c.args.line.now (is_ok r) (is_refused r) c.args.store.now.held c.take_steps.new.store.held (g.H.Host.state c.args.host.now) (g.H.Host.state c.take_steps.new.host)) (sym is)
    (serves_halted c.args.steps w s t c.args.line.now (some_line c.args.user.now c.args.line.now (sym c.in_ok-served.ensures.comment ∙ some)) (is_refusal_of c.in_ok-served.served) c.args.store.now.held c.serve_line.new.store.held c.take_steps.new.store.held (g.H.Host.state c.args.host.now) (g.H.Host.state c.serve_line.new.host) (g.H.Host.state c.take_steps.new.host) line
    (λ v on. c.in_err-take_steps.ensures.stepped v on))

pub returns-clause-goes : goal.returns-clause-goes
returns-clause-goes g c = record {
  told = c.take_steps.ensures.goes.told ∙ c.serve_line.ensures.goes.told;
  kept = c.take_steps.ensures.goes.kept ∙ c.serve_line.ensures.goes.kept;
  faults = omega (arith, c.serve_line.ensures.goes.faults, c.take_steps.ensures.goes.faults);
  fetched = omega (arith, c.serve_line.ensures.goes.fetched, c.take_steps.ensures.goes.fetched);
}

pub returns-clause-still : goal.returns-clause-still
returns-clause-still g c = λ none reads.
    ap (λ (k : Kept). k.held) (c.take_steps.ensures.none (no_step c.args.steps (line_asked c.args.user.now c.args.line.now) c.args.store.now.held c.serve_line.new.store.held c.in_ok-served.ensures.begins_none none)).1 ∙ c.serve_line.ensures.still reads

pub returns-clause-fetched : goal.returns-clause-fetched
returns-clause-fetched g c = λ none.
    fetched_then c.args.user.now (line_asked c.args.user.now c.args.line.now) c.args.store.now.held c.serve_line.new.store c.take_steps.new.store _ _ (g.H.Host.state c.args.host.now) (g.H.Host.state c.serve_line.new.host) (g.H.Host.state c.take_steps.new.host)
    (λ e. absurd (no_end c.in_ok-served.served ending.Host e)) ((c.take_steps.ensures.none (no_step c.args.steps (line_asked c.args.user.now c.args.line.now) c.args.store.now.held c.serve_line.new.store.held c.in_ok-served.ensures.begins_none none)).1, (c.take_steps.ensures.none (no_step c.args.steps (line_asked c.args.user.now c.args.line.now) c.args.store.now.held c.serve_line.new.store.held c.in_ok-served.ensures.begins_none none)).2) c.in_ok-served.ensures.fetched

pub returns-clause-unread : goal.returns-clause-unread
returns-clause-unread g c = λ none off.
    ap (λ (s : State). s.fetched) (c.take_steps.ensures.none (no_step c.args.steps (line_asked c.args.user.now c.args.line.now) c.args.store.now.held c.serve_line.new.store.held c.in_ok-served.ensures.begins_none none)).2 ∙ c.serve_line.ensures.unread off

pub returns-clause-by_journal : goal.returns-clause-by_journal
returns-clause-by_journal g c = λ by fine. c.in_ok-take_steps.ensures.by_journal (c.in_ok-served.ensures.by_journal by (λ e. cc)) (λ e. cc)

pub returns-clause-at : goal.returns-clause-at
returns-clause-at g c = λ w at.
    let on = c.in_ok-served.ensures.at w at in (c.in_ok-take_steps.ensures.at on.0 on.1).at

pub returns-clause-whole : goal.returns-clause-whole
returns-clause-whole g c = λ command page asked told. c.in_ok-served.ensures.whole command page asked told

pub returns-clause-replied : goal.returns-clause-replied
returns-clause-replied g c =
    let some : is_comment_of c.in_ok-served.served ≡ false = sym c.is_comment.ensures ∙ c.if-is_comment.false
    in replied_then c.args.steps (line_asked c.args.user.now c.args.line.now) c.args.store.now.held (g.T.Stage.staged c.args.stage.now) (g.T.Stage.staged c.serve_line.new.stage) (g.H.Host.state c.args.host.now) (g.H.Host.state c.serve_line.new.host) (g.H.Host.state c.take_steps.new.host) c.in_ok-served.served some c.in_ok-served.ensures.replied
    (behind_done c.args.steps (line_asked c.args.user.now c.args.line.now) c.args.store.now.held c.serve_line.new.store.held c.take_steps.new.store.held (g.H.Host.state c.args.host.now) (g.H.Host.state c.serve_line.new.host) (g.H.Host.state c.take_steps.new.host) c.take_steps.ensures.goes
    (λ none. (c.take_steps.ensures.none (no_step c.args.steps (line_asked c.args.user.now c.args.line.now) c.args.store.now.held c.serve_line.new.store.held c.in_ok-served.ensures.begins_none none)).2) (λ on. c.in_ok-served.ensures.at on.0 on.1) (λ w at. c.in_ok-take_steps.ensures.at w at))

pub returns-clause-serves : goal.returns-clause-serves
returns-clause-serves g c = λ w told at.
    let s = session_of (g.T.Stage.staged c.args.stage.now).files c.args.user.now
    in let t = session_of (g.T.Stage.staged c.serve_line.new.stage).files c.serve_line.new.user
    in let some : is_comment_of c.in_ok-served.served ≡ false = sym c.is_comment.ensures ∙ c.if-is_comment.false
    in let line : Serves all_forms 0 w s t c.args.line.now true (is_refusal_of c.in_ok-served.served) c.args.store.now.held c.serve_line.new.store.held (g.H.Host.state c.args.host.now) (g.H.Host.state c.serve_line.new.host) = c.in_ok-served.ensures.serves w told at
    in serves_steps c.args.steps w s t c.args.line.now (some_line c.args.user.now c.args.line.now (sym c.in_ok-served.ensures.comment ∙ some)) (is_refusal_of c.in_ok-served.served) c.args.store.now.held c.serve_line.new.store.held c.take_steps.new.store.held (g.H.Host.state c.args.host.now) (g.H.Host.state c.serve_line.new.host) (g.H.Host.state c.take_steps.new.host) line true
    (λ v on. c.in_ok-take_steps.ensures.stepped v on)
