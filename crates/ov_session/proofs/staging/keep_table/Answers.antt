use Rattle.std.proofs.Common.{◌≡◌, ℕ, List, [], rules, refl, subst}
use Rattle.std.specs.Prelude.{IfOk, None, Some}
use Rattle.law_runs.proofs.Doing.{breaks_looked}
use Rattle.law_runs.specs.Serving.{Breaks, session_of}
use Rattle.ov_model.specs.Act.{Session}
use Rattle.ov_model.specs.Registry.{stage_name}
use Rattle.ov_model.specs.declared.reply.Reply.{Reply}
use Rattle.ov_model.specs.declared.reply.Reply.TheVariants as says
use Rattle.ov_registry.specs.declared.registry.Registry.TheVariants as registry
use Rattle.ov_store.specs.Scanning.{set_in}
use Rattle.ov_session.proofs.Answered.{spared_damage}
use Rattle.ov_session.proofs.Dealing.{result_no_host, result_spared}
use Rattle.ov_session.proofs.Idling.{refused_none}
use Rattle.ov_session.proofs.Keeping.{changed_behind, changed_none, done_at, given_acts, given_behind, off_acts, off_alone, off_damaged, off_idle, off_usable, said}
use Rattle.ov_session.proofs.Numbering.{journal_off}
use Rattle.ov_session.proofs.Replying.{result_seen}
use Rattle.ov_session.proofs.Standing.{at_refused, on_any}
use Rattle.ov_session.specs.Errors.{reply_of}
use Rattle.ov_session.specs.Staging.{keeps, with_merge}
use Rattle.ov_session.proofs.staging.keep_table.Goals as goal

-- ---- there was no memory for a name

pub returns-in_err-name-clause-acts : goal.returns-in_err-name-clause-acts
returns-in_err-name-clause-acts g c = λ w user d vids told at is named.
    let s = session_of (g.T.Stage.staged c.args.stage.now).files user
    in let old = g.H.Host.state c.args.host.now
    in let fact : Breaks (keeps w s c.args.rows.now d vids c.args.file) s w old old = breaks_looked (keeps w s c.args.rows.now d vids c.args.file) s w c.args.store.now.held old old at refl
    in search (rules, fact)

pub returns-in_err-name-clause-by_journal : goal.returns-in_err-name-clause-by_journal
returns-in_err-name-clause-by_journal g c = λ by fine. by

-- ---- the change was made, and then the file was given

pub returns-in-Ok-clause-damaged : goal.returns-in-Ok-clause-damaged
returns-in-Ok-clause-damaged g c = spared_damage _ c.give.result (result_no_host c.give.result c.give.ensures.stage_alone)

pub returns-in-Ok-clause-undamaged : goal.returns-in-Ok-clause-undamaged
returns-in-Ok-clause-undamaged g c = λ w at. result_no_host c.give.result c.give.ensures.stage_alone

pub returns-in-Ok-clause-usable : goal.returns-in-Ok-clause-usable
returns-in-Ok-clause-usable g c = on_any _ c.give.result c.in-Ok.ensures.usable

pub returns-in-Ok-clause-begins_none : goal.returns-in-Ok-clause-begins_none
returns-in-Ok-clause-begins_none g c = λ none.
    on_any _ c.give.result
    (changed_none (set_in c.args.store.now.held.numbers stage_name) registry.Stage c.args.rows.now (g.H.Host.state c.args.host.now) c.args.store.now.held c.change.new.store.held
    c.in-Ok.ensures.done none)

pub returns-in-Ok-clause-by_journal : goal.returns-in-Ok-clause-by_journal
returns-in-Ok-clause-by_journal g c = λ by fine. c.in-Ok.ensures.by_journal by

pub returns-in-Ok-clause-at : goal.returns-in-Ok-clause-at
returns-in-Ok-clause-at g c = λ w at.
    let s : Session = record { files = λ file. None; user = [] }
    in on_any _ c.give.result
    (done_at _ s s w (says.Whoami []) c.args.store.now.held c.change.new.store.held (g.H.Host.state c.args.host.now) (g.H.Host.state c.change.new.host)
    (c.in-Ok.ensures.acts w s s (says.Whoami []) at))

pub returns-in-Ok-clause-idle : goal.returns-in-Ok-clause-idle
returns-in-Ok-clause-idle g c =
    given_behind c.args.store.now c.change.new.store (g.T.Stage.staged c.args.stage.now) (g.T.Stage.staged c.give.new.stage) (g.H.Host.state c.args.host.now)
    (g.H.Host.state c.change.new.host) c.give.result
    (changed_behind (set_in c.args.store.now.held.numbers stage_name) registry.Stage c.args.rows.now (g.H.Host.state c.args.host.now) c.args.store.now c.change.new.store c.in-Ok.ensures.done)
    c.give.ensures.stage_alone

pub returns-in-Ok-clause-acts : goal.returns-in-Ok-clause-acts
returns-in-Ok-clause-acts g c = λ w user d vids told at is named.
    let s = session_of (g.T.Stage.staged c.args.stage.now).files user
    in given_acts w s (session_of (g.T.Stage.staged c.give.new.stage).files user) c.args.rows.now d vids c.args.file c.args.store.now.held c.change.new.store.held
    (g.H.Host.state c.args.host.now) (g.H.Host.state c.change.new.host) c.give.result
    (c.in-Ok.ensures.acts w s (with_merge s c.args.file d vids) (said d vids c.args.file) at)
    (c.give.ensures.given w user d vids told is named)

-- ---- it wasn't made

pub returns-in-Err-clause-damaged : goal.returns-in-Err-clause-damaged
returns-in-Err-clause-damaged g c =
    off_damaged c.args.store.now c.change.new.store (g.H.Host.state c.args.host.now) (g.H.Host.state c.change.new.host) c.in-Err.off c.in-Err.ensures.stays
    registry.Stage c.args.rows.now c.refused.result c.refused.ensures.end c.in-Err.ensures.why

pub returns-in-Err-clause-undamaged : goal.returns-in-Err-clause-undamaged
returns-in-Err-clause-undamaged g c = λ w at. result_spared c.in-Err.off c.refused.result c.refused.ensures.end (c.in-Err.ensures.undamaged w at)

pub returns-in-Err-clause-usable : goal.returns-in-Err-clause-usable
returns-in-Err-clause-usable g c =
    off_usable c.args.store.now c.change.new.store (g.H.Host.state c.args.host.now) (g.H.Host.state c.change.new.host) c.in-Err.off c.in-Err.ensures.stays
    c.in_ok-name.name c.refused.result c.refused.ensures.reply c.requires.call

pub returns-in-Err-clause-begins_none : goal.returns-in-Err-clause-begins_none
returns-in-Err-clause-begins_none g c = λ none.
    refused_none c.in_ok-name.name c.in-Err.off c.refused.result c.args.store.now c.change.new.store (g.H.Host.state c.args.host.now) (g.H.Host.state c.change.new.host)
    c.refused.ensures.reply c.in-Err.ensures.stays none

pub returns-in-Err-clause-by_journal : goal.returns-in-Err-clause-by_journal
returns-in-Err-clause-by_journal g c = λ by fine.
    journal_off c.args.store.now c.change.new.store (g.H.Host.state c.args.host.now) (g.H.Host.state c.change.new.host) by c.in_ok-name.name c.in-Err.off c.refused.result
    c.refused.ensures.reply c.refused.ensures.end c.in-Err.ensures.stays fine

pub returns-in-Err-clause-at : goal.returns-in-Err-clause-at
returns-in-Err-clause-at g c = λ w at.
    at_refused w c.in_ok-name.name c.in-Err.off c.refused.result c.args.store.now c.change.new.store (g.H.Host.state c.args.host.now) (g.H.Host.state c.change.new.host)
    c.refused.ensures.reply c.in-Err.ensures.stays at

pub returns-in-Err-clause-seen : goal.returns-in-Err-clause-seen
returns-in-Err-clause-seen g c = result_seen c.in_ok-name.name c.in-Err.off c.refused.result c.refused.ensures.reply

pub returns-in-Err-clause-idle : goal.returns-in-Err-clause-idle
returns-in-Err-clause-idle g c =
    off_idle c.args.store.now c.change.new.store (g.H.Host.state c.args.host.now) (g.H.Host.state c.change.new.host) c.in-Err.off c.in-Err.ensures.stays
    (g.T.Stage.staged c.args.stage.now) c.refused.result c.refused.ensures.end

pub returns-in-Err-clause-stage : goal.returns-in-Err-clause-stage
returns-in-Err-clause-stage g c = λ is. absurd (off_alone c.in-Err.off c.refused.result c.refused.ensures.end is)

pub returns-in-Err-clause-acts : goal.returns-in-Err-clause-acts
returns-in-Err-clause-acts g c = λ w user d vids told at is named.
    let s = session_of (g.T.Stage.staged c.args.stage.now).files user
    in let name : c.in_ok-name.name ≡ stage_name = search rules
    in off_acts stage_name (keeps w s c.args.rows.now d vids c.args.file) s w c.args.store.now.held c.change.new.store.held (g.H.Host.state c.args.host.now)
    (g.H.Host.state c.change.new.host) c.in-Err.off c.refused.result
    (subst (λ (n : List ℕ). IfOk c.refused.result (λ (reply : Reply). reply_of n c.in-Err.off ≡ Some reply)) name c.refused.ensures.reply)
    (c.in-Err.ensures.acts w s (with_merge s c.args.file d vids) (said d vids c.args.file) at)
