use Rattle.std.proofs.Common.{◌≡◌, ◌∙◌, false, sym, ap, arith, refl, subst, rules, inl}
use Rattle.std.specs.Prelude.{Err, IsErrOf, Ok, Result, is_ok}
use Rattle.ov_cmd.specs.Asked.{AsksAny}
use Rattle.ov_cmd.specs.Said.{said}
use Rattle.ov_session.specs.declared.errors.EndErr.{EndErr}
use Rattle.ov_session.specs.declared.serving.Served.{Served}
use Rattle.ov_session.specs.Asking.{line_asked, refusal_to}
use Rattle.law_runs.specs.Serving.{Serves, session_of}
use Rattle.ov_model.specs.Line.{Asks, Refused}
use Rattle.ov_session.proofs.Saying.{comment_none, line_unserved, says_broken, says_comment, says_refusal, says_reply}
use Rattle.ov_model.specs.Forms.{all_forms}
use Rattle.ov_session.specs.Commands.{IsNoDamage, MeetsDamage, is_comment_in, is_refused}
use Rattle.std.proofs.Common.{ℕ}
use Rattle.ov_model.specs.Line.{Line}
use Rattle.ov_model.specs.declared.reply.Reply.TheVariants as says
use Rattle.ov_session.proofs.Bounds.{host_again, ok_no_host, printed_line, unread_line}
use Rattle.ov_session.proofs.Replying.{asked_seen, is_replied, refused_missed}
use Rattle.ov_session.proofs.Standing.{at_said, idle_unsaid_on, on_any, unsaid_line}
use Rattle.ov_session.specs.Replying.{IsReplyTo}
use Rattle.ov_session.specs.Standing.{IsIdleOn}
use Rattle.ov_session.proofs.Numbering.{journal_said}
use Rattle.ov_session.specs.declared.errors.EndErr.TheVariants as ending
use Rattle.ov_session.proofs.Meeting.{comment_asks, refused_asks, same_command}
use Rattle.ov_session.proofs.Dealing.{damage_wider}
use Rattle.ov_model.specs.declared.command.Command.{Command}
use Rattle.std.specs.Prelude.{IfErr}
use Rattle.ov_session.specs.Commands.{IsDamageOf, IsDamaged}
use Rattle.ov_session.proofs.Acting.{comment_user, refused_user, said_user}
use Rattle.ov_session.specs.Acting.{IsNextUser, user_after}
use Rattle.ov_session.specs.Bounds.{IsFetchedBy, IsReading, is_off}
use Rattle.ov_session.specs.Stepping.{line_begins}
use Rattle.ov_session.proofs.serving.serve_line.Goals as goal

pub act-requires-clause-asked : goal.act-requires-clause-asked
act-requires-clause-asked g c = subst AsksAny c.in-Ok-Some.field-0-is c.in-Ok-Some.ensures.asked

pub returns-in_err-reply-in-Ok-Some-clause-undamaged : goal.returns-in_err-reply-in-Ok-Some-clause-undamaged
returns-in_err-reply-in-Ok-Some-clause-undamaged g c = λ w at.
    let fact : IsNoDamage c.in_err-reply-in-Ok-Some.field-0.0 = c.in_err-reply-in-Ok-Some.ensures.serves.undamaged w at
    in search (rules, fact)

pub returns-in_err-reply-in-Ok-Some-clause-damaged : goal.returns-in_err-reply-in-Ok-Some-clause-damaged
returns-in_err-reply-in-Ok-Some-clause-damaged g c =
    let user = c.args.user.now
    in let l = line_asked user c.args.line.now
    in let IsDamage : Command → ℕ → Type 0
    = λ command page. IsDamaged user command (g.T.Stage.staged c.args.stage.now) c.args.store.now.held c.act.new.store.held (g.H.Host.state c.act.new.host) page
    in let IsMet : ℕ → Type 0 = λ page. (command : Command) × (l ≡ Asks command) × IsDamage command page
    in let fact : IsDamageOf IsMet c.in_err-reply-in-Ok-Some.field-0.0
    = damage_wider (IsDamage c.in-Ok-Some.command) IsMet c.in_err-reply-in-Ok-Some.field-0.0
    (λ page met. (c.in-Ok-Some.command, c.in-Ok-Some.ensures.ok ∙ ap said c.in-Ok-Some.field-0-is, met)) c.in_err-reply-in-Ok-Some.ensures.serves.damaged
    in let is : c.from_residual.result ≡ Err c.in_err-reply-in-Ok-Some.field-0.0 = search rules
    in subst (λ (r : Result Served EndErr). IfErr r (IsDamageOf IsMet)) (sym is) fact

pub returns-in_err-reply-in-Ok-Some-clause-serves : goal.returns-in_err-reply-in-Ok-Some-clause-serves
returns-in_err-reply-in-Ok-Some-clause-serves g c = λ w told at.
    let s = session_of (g.T.Stage.staged c.args.stage.now).files c.args.user.now
    in let t = session_of (g.T.Stage.staged c.act.new.stage).files c.act.new.user
    in let fact : Serves all_forms 0 w s t c.args.line.now false false c.args.store.now.held c.act.new.store.held (g.H.Host.state c.args.host.now) (g.H.Host.state c.act.new.host)
    = says_broken w s t c.args.line.now c.in-Ok-Some.command c.args.store.now.held c.act.new.store.held (g.H.Host.state c.args.host.now) (g.H.Host.state c.act.new.host)
    (c.in-Ok-Some.ensures.ok ∙ ap said c.in-Ok-Some.field-0-is) (c.in_err-reply-in-Ok-Some.ensures.serves.acts w told at)
    in let is : c.from_residual.result ≡ Err c.in_err-reply-in-Ok-Some.field-0.0 = search rules
    in subst (λ (r : Result Served EndErr). Serves all_forms 0 w s t c.args.line.now (is_ok r) (is_refused r) c.args.store.now.held c.act.new.store.held
    (g.H.Host.state c.args.host.now) (g.H.Host.state c.act.new.host)) (sym is) fact

pub returns-in_err-refusal-in-Err-clause-serves : goal.returns-in_err-refusal-in-Err-clause-serves
returns-in_err-refusal-in-Err-clause-serves g c = λ w told at.
    let s = session_of (g.T.Stage.staged c.args.stage.now).files c.args.user.now
    in let fact : Serves all_forms 0 w s s c.args.line.now false false c.args.store.now.held c.args.store.now.held (g.H.Host.state c.args.host.now) (g.H.Host.state c.args.host.now)
    = line_unserved w s c.args.line.now c.args.store.now.held (g.H.Host.state c.args.host.now) at
    in let is : c.from_residual-in_err-refusal-in-Err.result ≡ Err c.in_err-refusal-in-Err.field-0.0 = search rules
    in subst (λ (r : Result Served EndErr). Serves all_forms 0 w s s c.args.line.now (is_ok r) (is_refused r) c.args.store.now.held c.args.store.now.held
    (g.H.Host.state c.args.host.now) (g.H.Host.state c.args.host.now)) (sym is) fact

pub returns-in-Ok-None-clause-comment : goal.returns-in-Ok-None-clause-comment
returns-in-Ok-None-clause-comment g c = sym (ap is_comment_in (c.in-Ok-None.ensures.ok ∙ ap said c.in-Ok-None.field-0-is))

pub returns-in-Ok-None-clause-serves : goal.returns-in-Ok-None-clause-serves
returns-in-Ok-None-clause-serves g c = λ w told at.
    says_comment w (session_of (g.T.Stage.staged c.args.stage.now).files c.args.user.now) c.args.line.now c.args.store.now.held
    (g.H.Host.state c.args.host.now) (c.in-Ok-None.ensures.ok ∙ ap said c.in-Ok-None.field-0-is) at

pub returns-in_ok-reply-in-Ok-Some-clause-comment : goal.returns-in_ok-reply-in-Ok-Some-clause-comment
returns-in_ok-reply-in-Ok-Some-clause-comment g c =
    comment_none (Asks c.in-Ok-Some.command) (line_asked c.args.user.now c.args.line.now) _ c.say.result
    (sym (c.in-Ok-Some.ensures.ok ∙ ap said c.in-Ok-Some.field-0-is)) refl c.say.ensures.served

pub returns-in_ok-reply-in-Ok-Some-clause-serves : goal.returns-in_ok-reply-in-Ok-Some-clause-serves
returns-in_ok-reply-in-Ok-Some-clause-serves g c = λ w told at.
    says_reply w (session_of (g.T.Stage.staged c.args.stage.now).files c.args.user.now) (session_of (g.T.Stage.staged c.act.new.stage).files c.act.new.user)
    c.args.line.now c.in-Ok-Some.command c.in_ok-reply-in-Ok-Some.reply c.args.store.now.held c.act.new.store.held
    (g.H.Host.state c.args.host.now) (g.H.Host.state c.act.new.host) (g.H.Host.state c.say.new.host)
    (c.in-Ok-Some.ensures.ok ∙ ap said c.in-Ok-Some.field-0-is) (c.in_ok-reply-in-Ok-Some.ensures.serves.acts w told at) c.say.result
    (record { answer = c.say.ensures.served; why = c.say.ensures.host_alone; silent = c.say.ensures.unsaid; printed = c.say.ensures.said })

pub returns-in_ok-refusal-in-Err-clause-comment : goal.returns-in_ok-refusal-in-Err-clause-comment
returns-in_ok-refusal-in-Err-clause-comment g c =
    comment_none (Refused (refusal_to c.in-Err.off)) (line_asked c.args.user.now c.args.line.now) _ c.say-in-Err.result (sym (c.in-Err.ensures.err c.in_ok-refusal-in-Err.ensures.some)) refl c.say-in-Err.ensures.served

pub returns-in_ok-refusal-in-Err-clause-serves : goal.returns-in_ok-refusal-in-Err-clause-serves
returns-in_ok-refusal-in-Err-clause-serves g c = λ w told at.
    says_refusal w (session_of (g.T.Stage.staged c.args.stage.now).files c.args.user.now) c.args.line.now c.in_ok-refusal-in-Err.field-0
    c.args.store.now.held (g.H.Host.state c.args.host.now) (g.H.Host.state c.say-in-Err.new.host)
    (c.in-Err.ensures.err c.in_ok-refusal-in-Err.ensures.some ∙ ap Refused (sym c.in_ok-refusal-in-Err.ensures.refusal)) at c.say-in-Err.result
    (record { answer = c.say-in-Err.ensures.served; why = c.say-in-Err.ensures.host_alone; silent = c.say-in-Err.ensures.unsaid; printed = c.say-in-Err.ensures.said })

-- ---- what was fetched

pub returns-in_ok-reply-in-Ok-Some-clause-goes : goal.returns-in_ok-reply-in-Ok-Some-clause-goes
returns-in_ok-reply-in-Ok-Some-clause-goes g c = record {
  told = c.say.ensures.goes.told ∙ c.act.ensures.serves.goes.told;
  kept = c.say.ensures.goes.kept ∙ c.act.ensures.serves.goes.kept;
  faults = omega (arith, c.act.ensures.serves.goes.faults, c.say.ensures.goes.faults);
  fetched = omega (arith, c.act.ensures.serves.goes.fetched, c.say.ensures.goes.fetched);
}

pub returns-in_err-reply-in-Ok-Some-clause-fetched : goal.returns-in_err-reply-in-Ok-Some-clause-fetched
returns-in_err-reply-in-Ok-Some-clause-fetched g c =
    let same : c.from_residual.result ≡ Err c.in_err-reply-in-Ok-Some.field-0.0 = search rules
    in let result : c.act.result ≡ Err c.in_err-reply-in-Ok-Some.field-0.0 = search rules
    in printed_line c.args.user.now (line_asked c.args.user.now c.args.line.now) c.args.store.now.held c.act.new.store.held (IsErrOf c.act.result ending.Host) _
    (g.H.Host.state c.args.host.now) (g.H.Host.state c.act.new.host) (g.H.Host.state c.act.new.host)
    (λ is. host_again c.act.result c.from_residual.result c.in_err-reply-in-Ok-Some.field-0.0 result same is) refl
    (subst (λ (l : Line). IsFetchedBy c.args.user.now l c.args.store.now.held c.act.new.store.held (IsErrOf c.act.result ending.Host) (g.H.Host.state c.args.host.now) (g.H.Host.state c.act.new.host))
    (sym (c.in-Ok-Some.ensures.ok ∙ ap said c.in-Ok-Some.field-0-is)) c.act.ensures.serves.fetched)

pub returns-in_err-refusal-in-Err-clause-fetched : goal.returns-in_err-refusal-in-Err-clause-fetched
returns-in_err-refusal-in-Err-clause-fetched g c = unread_line c.args.user.now (line_asked c.args.user.now c.args.line.now) c.args.store.now.held _ (g.H.Host.state c.args.host.now)

pub returns-in-Ok-None-clause-fetched : goal.returns-in-Ok-None-clause-fetched
returns-in-Ok-None-clause-fetched g c = unread_line c.args.user.now (line_asked c.args.user.now c.args.line.now) c.args.store.now.held _ (g.H.Host.state c.args.host.now)

pub returns-in_ok-reply-in-Ok-Some-clause-fetched : goal.returns-in_ok-reply-in-Ok-Some-clause-fetched
returns-in_ok-reply-in-Ok-Some-clause-fetched g c =
    let result : c.act.result ≡ Ok c.in_ok-reply-in-Ok-Some.reply = search rules
    in printed_line c.args.user.now (line_asked c.args.user.now c.args.line.now) c.args.store.now.held c.act.new.store.held (IsErrOf c.act.result ending.Host) _
    (g.H.Host.state c.args.host.now) (g.H.Host.state c.act.new.host) (g.H.Host.state c.say.new.host) (λ is. absurd (ok_no_host c.act.result c.in_ok-reply-in-Ok-Some.reply result is)) c.say.ensures.fetched
    (subst (λ (l : Line). IsFetchedBy c.args.user.now l c.args.store.now.held c.act.new.store.held (IsErrOf c.act.result ending.Host) (g.H.Host.state c.args.host.now) (g.H.Host.state c.act.new.host))
    (sym (c.in-Ok-Some.ensures.ok ∙ ap said c.in-Ok-Some.field-0-is)) c.act.ensures.serves.fetched)

pub returns-in_ok-refusal-in-Err-clause-fetched : goal.returns-in_ok-refusal-in-Err-clause-fetched
returns-in_ok-refusal-in-Err-clause-fetched g c =
    printed_line c.args.user.now (line_asked c.args.user.now c.args.line.now) c.args.store.now.held c.args.store.now.held ⊥ _ (g.H.Host.state c.args.host.now) (g.H.Host.state c.args.host.now) (g.H.Host.state c.say-in-Err.new.host) (λ none. absurd none) c.say-in-Err.ensures.fetched
    (unread_line c.args.user.now (line_asked c.args.user.now c.args.line.now) c.args.store.now.held ⊥ (g.H.Host.state c.args.host.now))

pub returns-in_err-reply-in-Ok-Some-clause-unread : goal.returns-in_err-reply-in-Ok-Some-clause-unread
returns-in_err-reply-in-Ok-Some-clause-unread g c = λ off.
    c.act.ensures.serves.unread (sym (ap (is_off c.args.store.now.held.numbers c.args.user.now) (c.in-Ok-Some.ensures.ok ∙ ap said c.in-Ok-Some.field-0-is)) ∙ off)

pub returns-in_ok-reply-in-Ok-Some-clause-unread : goal.returns-in_ok-reply-in-Ok-Some-clause-unread
returns-in_ok-reply-in-Ok-Some-clause-unread g c = λ off.
    c.say.ensures.fetched
    ∙ c.act.ensures.serves.unread (sym (ap (is_off c.args.store.now.held.numbers c.args.user.now) (c.in-Ok-Some.ensures.ok ∙ ap said c.in-Ok-Some.field-0-is)) ∙ off)

pub returns-in_ok-refusal-in-Err-clause-unread : goal.returns-in_ok-refusal-in-Err-clause-unread
returns-in_ok-refusal-in-Err-clause-unread g c = λ is. c.say-in-Err.ensures.fetched

-- ---- where it leaves the store

pub returns-in_err-reply-in-Ok-Some-clause-idle : goal.returns-in_err-reply-in-Ok-Some-clause-idle
returns-in_err-reply-in-Ok-Some-clause-idle g c =
    let IsIdle : Line → EndErr → Type 0
    = λ l e. IsIdleOn l e c.args.store.now c.act.new.store (g.T.Stage.staged c.args.stage.now) (g.T.Stage.staged c.act.new.stage) (g.H.Host.state c.args.host.now) (g.H.Host.state c.act.new.host)
    in let fact : IsIdle (line_asked c.args.user.now c.args.line.now) c.in_err-reply-in-Ok-Some.field-0.0
    = subst (λ (l : Line). IsIdle l c.in_err-reply-in-Ok-Some.field-0.0) (sym (c.in-Ok-Some.ensures.ok ∙ ap said c.in-Ok-Some.field-0-is))
    c.in_err-reply-in-Ok-Some.ensures.serves.idle
    in let is : c.from_residual.result ≡ Err c.in_err-reply-in-Ok-Some.field-0.0 = search rules
    in subst (λ (r : Result Served EndErr). IfErr r (IsIdle (line_asked c.args.user.now c.args.line.now))) (sym is) fact

pub returns-in_err-refusal-in-Err-clause-idle : goal.returns-in_err-refusal-in-Err-clause-idle
returns-in_err-refusal-in-Err-clause-idle g c =
    let memory : c.from_residual-in_err-refusal-in-Err.result ≡ Err ending.Memory = search rules
    in subst (λ (r : Result Served EndErr). IfErr r (λ e. IsIdleOn (line_asked c.args.user.now c.args.line.now) e c.args.store.now c.args.store.now (g.T.Stage.staged c.args.stage.now) (g.T.Stage.staged c.args.stage.now) (g.H.Host.state c.args.host.now) (g.H.Host.state c.args.host.now))) (sym memory)
    (unsaid_line c.args.store.now c.args.store.now (g.T.Stage.staged c.args.stage.now) (g.T.Stage.staged c.args.stage.now) (g.H.Host.state c.args.host.now) (g.H.Host.state c.args.host.now) (line_asked c.args.user.now c.args.line.now) ending.Memory tt)

pub returns-in_ok-reply-in-Ok-Some-clause-idle : goal.returns-in_ok-reply-in-Ok-Some-clause-idle
returns-in_ok-reply-in-Ok-Some-clause-idle g c =
    idle_unsaid_on c.args.store.now c.act.new.store (g.T.Stage.staged c.args.stage.now) (g.T.Stage.staged c.act.new.stage) (g.H.Host.state c.args.host.now) (g.H.Host.state c.say.new.host) (line_asked c.args.user.now c.args.line.now) c.say.result c.say.ensures.host_alone

pub returns-in_ok-refusal-in-Err-clause-idle : goal.returns-in_ok-refusal-in-Err-clause-idle
returns-in_ok-refusal-in-Err-clause-idle g c =
    idle_unsaid_on c.args.store.now c.args.store.now (g.T.Stage.staged c.args.stage.now) (g.T.Stage.staged c.args.stage.now) (g.H.Host.state c.args.host.now) (g.H.Host.state c.say-in-Err.new.host) (line_asked c.args.user.now c.args.line.now) c.say-in-Err.result c.say-in-Err.ensures.host_alone

pub returns-in-Ok-None-clause-at : goal.returns-in-Ok-None-clause-at
returns-in-Ok-None-clause-at g c = λ w at. (w, at)

pub returns-in_ok-reply-in-Ok-Some-clause-at : goal.returns-in_ok-reply-in-Ok-Some-clause-at
returns-in_ok-reply-in-Ok-Some-clause-at g c = λ w at.
    at_said c.act.new.store.held (g.H.Host.state c.act.new.host) (g.H.Host.state c.say.new.host) c.in_ok-reply-in-Ok-Some.reply c.say.result
    (record { answer = c.say.ensures.served; why = c.say.ensures.host_alone; silent = c.say.ensures.unsaid; printed = c.say.ensures.said })
    (c.in_ok-reply-in-Ok-Some.ensures.serves.at w at).at

pub returns-in_ok-refusal-in-Err-clause-at : goal.returns-in_ok-refusal-in-Err-clause-at
returns-in_ok-refusal-in-Err-clause-at g c = λ w at.
    at_said c.args.store.now.held (g.H.Host.state c.args.host.now) (g.H.Host.state c.say-in-Err.new.host) (says.Refused c.in_ok-refusal-in-Err.field-0) c.say-in-Err.result
    (record { answer = c.say-in-Err.ensures.served; why = c.say-in-Err.ensures.host_alone; silent = c.say-in-Err.ensures.unsaid; printed = c.say-in-Err.ensures.said }) (w, at)

-- ---- its reply

pub returns-in-Ok-None-clause-replied : goal.returns-in-Ok-None-clause-replied
returns-in-Ok-None-clause-replied g c = refl

pub returns-in_ok-reply-in-Ok-Some-clause-replied : goal.returns-in_ok-reply-in-Ok-Some-clause-replied
returns-in_ok-reply-in-Ok-Some-clause-replied g c =
    is_replied (line_asked c.args.user.now c.args.line.now) c.in_ok-reply-in-Ok-Some.reply c.args.store.now.held (g.T.Stage.staged c.args.stage.now) (g.T.Stage.staged c.act.new.stage) (g.H.Host.state c.args.host.now) (g.H.Host.state c.act.new.host) (g.H.Host.state c.say.new.host)
    (subst (λ (l : Line). IsReplyTo l c.in_ok-reply-in-Ok-Some.reply) (sym (c.in-Ok-Some.ensures.ok ∙ ap said c.in-Ok-Some.field-0-is)) tt) c.act.ensures.serves.goes.told
    (λ some. (c.in_ok-reply-in-Ok-Some.ensures.serves.at some.0 some.1).printed) c.in_ok-reply-in-Ok-Some.ensures.serves.missed c.say.result
    (record { answer = c.say.ensures.served; why = c.say.ensures.host_alone; silent = c.say.ensures.unsaid; printed = c.say.ensures.said })

pub returns-in_ok-refusal-in-Err-clause-replied : goal.returns-in_ok-refusal-in-Err-clause-replied
returns-in_ok-refusal-in-Err-clause-replied g c =
    is_replied (line_asked c.args.user.now c.args.line.now) (says.Refused c.in_ok-refusal-in-Err.field-0) c.args.store.now.held (g.T.Stage.staged c.args.stage.now) (g.T.Stage.staged c.args.stage.now) (g.H.Host.state c.args.host.now) (g.H.Host.state c.args.host.now) (g.H.Host.state c.say-in-Err.new.host)
    (subst (λ (l : Line). IsReplyTo l (says.Refused c.in_ok-refusal-in-Err.field-0)) (sym (c.in-Err.ensures.err c.in_ok-refusal-in-Err.ensures.some ∙ ap Refused (sym c.in_ok-refusal-in-Err.ensures.refusal))) refl) refl
    (λ some. refl) (refused_missed _ c.in_ok-refusal-in-Err.field-0 (λ file is. absurd (asked_seen c.in-Err.off file (sym c.in_ok-refusal-in-Err.ensures.refusal ∙ is)))) c.say-in-Err.result
    (record { answer = c.say-in-Err.ensures.served; why = c.say-in-Err.ensures.host_alone; silent = c.say-in-Err.ensures.unsaid; printed = c.say-in-Err.ensures.said })

-- ---- its numbers

pub returns-in_err-reply-in-Ok-Some-clause-by_journal : goal.returns-in_err-reply-in-Ok-Some-clause-by_journal
returns-in_err-reply-in-Ok-Some-clause-by_journal g c = λ by fine.
    let is : c.from_residual.result ≡ Err c.in_err-reply-in-Ok-Some.field-0.0 = search rules
    in c.in_err-reply-in-Ok-Some.ensures.serves.by_journal by
    (λ e. let host : c.in_err-reply-in-Ok-Some.field-0.0 ≡ ending.Host = cc in fine (is ∙ ap Err host))

pub returns-in_err-refusal-in-Err-clause-by_journal : goal.returns-in_err-refusal-in-Err-clause-by_journal
returns-in_err-refusal-in-Err-clause-by_journal g c = λ by fine. by

pub returns-in-Ok-None-clause-by_journal : goal.returns-in-Ok-None-clause-by_journal
returns-in-Ok-None-clause-by_journal g c = λ by fine. by

pub returns-in_ok-reply-in-Ok-Some-clause-by_journal : goal.returns-in_ok-reply-in-Ok-Some-clause-by_journal
returns-in_ok-reply-in-Ok-Some-clause-by_journal g c = λ by fine.
    journal_said c.act.new.store.held (g.H.Host.state c.act.new.host) (g.H.Host.state c.say.new.host) c.in_ok-reply-in-Ok-Some.reply c.say.result
    (record { answer = c.say.ensures.served; why = c.say.ensures.host_alone; silent = c.say.ensures.unsaid; printed = c.say.ensures.said }) fine
    (c.in_ok-reply-in-Ok-Some.ensures.serves.by_journal by (λ e. cc))

pub returns-in_ok-refusal-in-Err-clause-by_journal : goal.returns-in_ok-refusal-in-Err-clause-by_journal
returns-in_ok-refusal-in-Err-clause-by_journal g c = λ by fine.
    journal_said c.args.store.now.held (g.H.Host.state c.args.host.now) (g.H.Host.state c.say-in-Err.new.host) (says.Refused c.in_ok-refusal-in-Err.field-0) c.say-in-Err.result
    (record { answer = c.say-in-Err.ensures.served; why = c.say-in-Err.ensures.host_alone; silent = c.say-in-Err.ensures.unsaid; printed = c.say-in-Err.ensures.said }) fine by

-- ---- an answer met no damage

pub returns-in-Ok-None-clause-whole : goal.returns-in-Ok-None-clause-whole
returns-in-Ok-None-clause-whole g c = λ command page asked told. absurd (comment_asks command (sym (c.in-Ok-None.ensures.ok ∙ ap said c.in-Ok-None.field-0-is) ∙ asked))

pub returns-in_ok-reply-in-Ok-Some-clause-whole : goal.returns-in_ok-reply-in-Ok-Some-clause-whole
returns-in_ok-reply-in-Ok-Some-clause-whole g c = λ command page asked told.
    on_any _ c.say.result
    (subst (λ (x : Command). MeetsDamage c.args.user.now x (g.T.Stage.staged c.args.stage.now) c.args.store.now.held (g.H.Host.state c.args.host.now) page → ⊥)
    (same_command c.in-Ok-Some.command command (sym (c.in-Ok-Some.ensures.ok ∙ ap said c.in-Ok-Some.field-0-is) ∙ asked))
    (c.in_ok-reply-in-Ok-Some.ensures.serves.whole page told))

pub returns-in_ok-refusal-in-Err-clause-whole : goal.returns-in_ok-refusal-in-Err-clause-whole
returns-in_ok-refusal-in-Err-clause-whole g c = λ command page asked told. absurd (refused_asks c.in_ok-refusal-in-Err.field-0 command (sym (c.in-Err.ensures.err c.in_ok-refusal-in-Err.ensures.some ∙ ap Refused (sym c.in_ok-refusal-in-Err.ensures.refusal)) ∙ asked))

-- ---- what changes no store

pub returns-in_err-reply-in-Ok-Some-clause-still : goal.returns-in_err-reply-in-Ok-Some-clause-still
returns-in_err-reply-in-Ok-Some-clause-still g c = λ reads.
    c.act.ensures.serves.still (subst IsReading (c.in-Ok-Some.ensures.ok ∙ ap said c.in-Ok-Some.field-0-is) reads)

pub returns-in_ok-reply-in-Ok-Some-clause-still : goal.returns-in_ok-reply-in-Ok-Some-clause-still
returns-in_ok-reply-in-Ok-Some-clause-still g c = λ reads.
    c.act.ensures.serves.still (subst IsReading (c.in-Ok-Some.ensures.ok ∙ ap said c.in-Ok-Some.field-0-is) reads)

-- ---- no plan

pub returns-in_ok-reply-in-Ok-Some-clause-begins_none : goal.returns-in_ok-reply-in-Ok-Some-clause-begins_none
returns-in_ok-reply-in-Ok-Some-clause-begins_none g c = λ quiet none.
    on_any _ c.say.result
    (c.in_ok-reply-in-Ok-Some.ensures.serves.begins_none
    (sym (ap (line_begins c.args.store.now.held.numbers) (c.in-Ok-Some.ensures.ok ∙ ap said c.in-Ok-Some.field-0-is)) ∙ quiet) none)

-- ---- who acts behind it

pub returns-in-Ok-None-clause-user : goal.returns-in-Ok-None-clause-user
returns-in-Ok-None-clause-user g c = comment_user (line_asked c.args.user.now c.args.line.now) c.args.user.now

pub returns-in_err-reply-in-Ok-Some-clause-user : goal.returns-in_err-reply-in-Ok-Some-clause-user
returns-in_err-reply-in-Ok-Some-clause-user g c =
    let is : c.from_residual.result ≡ Err c.in_err-reply-in-Ok-Some.field-0.0 = search rules
    in subst (λ (r : Result Served EndErr). IsNextUser (line_asked c.args.user.now c.args.line.now) r c.args.user.now c.act.new.user) (sym is) (inl c.in_err-reply-in-Ok-Some.ensures.user)

pub returns-in_err-refusal-in-Err-clause-user : goal.returns-in_err-refusal-in-Err-clause-user
returns-in_err-refusal-in-Err-clause-user g c =
    let is : c.from_residual-in_err-refusal-in-Err.result ≡ Err c.in_err-refusal-in-Err.field-0.0 = search rules
    in subst (λ (r : Result Served EndErr). IsNextUser (line_asked c.args.user.now c.args.line.now) r c.args.user.now c.args.user.now) (sym is) (inl refl)

pub returns-in_ok-reply-in-Ok-Some-clause-user : goal.returns-in_ok-reply-in-Ok-Some-clause-user
returns-in_ok-reply-in-Ok-Some-clause-user g c =
    let l = line_asked c.args.user.now c.args.line.now
    in said_user l c.in-Ok-Some.command c.args.user.now c.act.new.user
    (λ what. ap (λ (x : Line). user_after x what c.args.user.now) (c.in-Ok-Some.ensures.ok ∙ ap said c.in-Ok-Some.field-0-is))
    c.in_ok-reply-in-Ok-Some.reply c.in_ok-reply-in-Ok-Some.ensures.user c.say.result c.say.ensures.served

pub returns-in_ok-refusal-in-Err-clause-user : goal.returns-in_ok-refusal-in-Err-clause-user
returns-in_ok-refusal-in-Err-clause-user g c =
    let is = c.in-Err.ensures.err c.in_ok-refusal-in-Err.ensures.some
    in subst (λ (l : Line). IsNextUser l c.say-in-Err.result c.args.user.now c.args.user.now) (sym is) (refused_user (refusal_to c.in-Err.off) c.args.user.now c.say-in-Err.result)
