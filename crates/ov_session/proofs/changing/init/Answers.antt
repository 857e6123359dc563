use Rattle.std.proofs.Common.{◌∙◌, sym, ap, refl, rules}
use Rattle.law_runs.proofs.Doing.{breaks_looked}
use Rattle.law_runs.specs.Serving.{Breaks, session_of}
use Rattle.ov_files.specs.Files.{result_of}
use Rattle.ov_model.specs.Act.{init_deed, init_refusal}
use Rattle.ov_session.proofs.Asking.{began_by, init_acts, init_by, init_refused, told_still}
use Rattle.std.specs.Prelude.{Err}
use Rattle.ov_session.proofs.Replying.{refused_missed, result_seen, seen_missed}
use Rattle.ov_session.proofs.Standing.{at_still, idle_same, idle_spared, idle_unmoved, on_any, result_unmoved}
use Rattle.ov_session.specs.Errors.{by_file}
use Rattle.ov_session.specs.Standing.{IsIdle}
use Rattle.ov_session.proofs.changing.init.Goals as goal

pub returns-in_err-rows-in-Ok-clause-acts : goal.returns-in_err-rows-in-Ok-clause-acts
returns-in_err-rows-in-Ok-clause-acts g c = λ w user told at.
    let s = session_of (g.T.Stage.staged c.args.stage.now).files user
    in let fact : Breaks (init_deed w s c.args.cvd c.args.schema c.args.file) s w (g.H.Host.state c.args.host.now) (g.H.Host.state c.args.host.now)
    = breaks_looked (init_deed w s c.args.cvd c.args.schema c.args.file) s w c.args.store.now.held (g.H.Host.state c.args.host.now) (g.H.Host.state c.args.host.now) at refl
    in search (rules, fact)

pub returns-in-Rows-clause-acts : goal.returns-in-Rows-clause-acts
returns-in-Rows-clause-acts g c = λ w user told at.
    let s = session_of (g.T.Stage.staged c.args.stage.now).files user
    in let none = ap (init_refusal w) (sym c.as_str.ensures.text) ∙ c.in-Ok.ensures.world w (g.H.Host.state c.args.host.now) at
    in init_acts w s (session_of (g.T.Stage.staged c.rows_of_file.new.stage).files user) c.args.cvd c.args.schema c.args.file (g.T.Stage.staged c.args.stage.now).files refl
    (ap (λ files. session_of files user) (sym c.rows_of_file.ensures.looks.files)) c.args.store.now.held c.begin.new.store.held (g.H.Host.state c.args.host.now) (g.H.Host.state c.begin.new.host)
    c.in-Rows.rows c.begin.result none (sym (ap result_of c.in-Rows.is) ∙ c.in_ok-rows-in-Ok.ensures.rows told)
    (c.begin.ensures.acts w s at none)

pub returns-in-Refused-clause-acts : goal.returns-in-Refused-clause-acts
returns-in-Refused-clause-acts g c = λ w user told at.
    let s = session_of (g.T.Stage.staged c.args.stage.now).files user
    in let none = ap (init_refusal w) (sym c.as_str.ensures.text) ∙ c.in-Ok.ensures.world w (g.H.Host.state c.args.host.now) at
    in told_still (init_deed w s c.args.cvd c.args.schema c.args.file) s (session_of (g.T.Stage.staged c.rows_of_file.new.stage).files user) w c.in-Refused.refusal
    c.args.store.now.held (g.H.Host.state c.args.host.now)
    (init_by w s c.args.cvd c.args.schema c.args.file (g.T.Stage.staged c.args.stage.now).files refl _ none (sym (ap result_of c.in-Refused.is) ∙ c.in_ok-rows-in-Ok.ensures.rows told))
    (ap (λ files. session_of files user) (sym c.rows_of_file.ensures.looks.files)) at

pub returns-in-Err-clause-acts : goal.returns-in-Err-clause-acts
returns-in-Err-clause-acts g c = λ w user told at.
    let s = session_of (g.T.Stage.staged c.args.stage.now).files user
    in init_refused w s c.as_str.result.now c.args.cvd c.as_str.ensures.text c.args.schema c.args.file (g.T.Stage.staged c.args.stage.now).files refl
    c.args.store.now.held (g.H.Host.state c.args.host.now) at c.refused.result c.in-Err.off c.refused.ensures.reply
    (began_by c.args.store.now.held.numbers c.as_str.result.now c.in-Err.off c.in-Err.ensures.answer) (c.in-Err.ensures.world w (g.H.Host.state c.args.host.now) at)

pub returns-in_err-rows-in-Ok-clause-idle : goal.returns-in_err-rows-in-Ok-clause-idle
returns-in_err-rows-in-Ok-clause-idle g c =
    let fact : IsIdle (by_file c.in_err-rows-in-Ok.field-0.0) c.args.store.now c.args.store.now (g.T.Stage.staged c.args.stage.now) (g.T.Stage.staged c.rows_of_file.new.stage) (g.H.Host.state c.args.host.now) (g.H.Host.state c.args.host.now)
    = idle_unmoved c.args.store.now c.args.store.now (g.T.Stage.staged c.args.stage.now) (g.T.Stage.staged c.rows_of_file.new.stage) (g.H.Host.state c.args.host.now) (g.H.Host.state c.args.host.now) (by_file c.in_err-rows-in-Ok.field-0.0)
    (idle_same c.args.store.now (g.H.Host.state c.args.host.now)) c.rows_of_file.ensures.looks.files
    in search (rules, fact)

pub returns-in-Rows-clause-missed : goal.returns-in-Rows-clause-missed
returns-in-Rows-clause-missed g c = seen_missed _ c.begin.result c.begin.ensures.seen

pub returns-in-Rows-clause-idle : goal.returns-in-Rows-clause-idle
returns-in-Rows-clause-idle g c =
    idle_spared c.args.store.now c.begin.new.store (g.T.Stage.staged c.args.stage.now) (g.T.Stage.staged c.rows_of_file.new.stage) (g.H.Host.state c.args.host.now) (g.H.Host.state c.begin.new.host)
    c.begin.result c.begin.ensures.host_alone c.begin.ensures.undamaged

pub returns-in-Refused-clause-at : goal.returns-in-Refused-clause-at
returns-in-Refused-clause-at g c = λ w at. at_still w c.args.store.now.held (g.H.Host.state c.args.host.now) at

pub returns-in-Refused-clause-missed : goal.returns-in-Refused-clause-missed
returns-in-Refused-clause-missed g c =
    refused_missed _ c.in-Refused.refusal (λ file is. c.in_ok-rows-in-Ok.ensures.missing file (ap result_of c.in-Refused.is ∙ ap Err is))

pub returns-in-Err-clause-at : goal.returns-in-Err-clause-at
returns-in-Err-clause-at g c = λ w at. on_any _ c.refused.result (at_still w c.args.store.now.held (g.H.Host.state c.args.host.now) at)

pub returns-in-Err-clause-missed : goal.returns-in-Err-clause-missed
returns-in-Err-clause-missed g c = seen_missed _ c.refused.result (result_seen c.args.cvd c.in-Err.off c.refused.result c.refused.ensures.reply)

pub returns-in-Err-clause-idle : goal.returns-in-Err-clause-idle
returns-in-Err-clause-idle g c =
    result_unmoved c.args.store.now c.args.store.now (g.T.Stage.staged c.args.stage.now) (g.T.Stage.staged c.args.stage.now) (g.H.Host.state c.args.host.now) (g.H.Host.state c.args.host.now) c.refused.result (idle_same c.args.store.now (g.H.Host.state c.args.host.now)) refl

pub returns-in_err-rows-in-Ok-clause-by_journal : goal.returns-in_err-rows-in-Ok-clause-by_journal
returns-in_err-rows-in-Ok-clause-by_journal g c = λ by fine. by

pub returns-in-Refused-clause-by_journal : goal.returns-in-Refused-clause-by_journal
returns-in-Refused-clause-by_journal g c = λ by fine. by

pub returns-in-Err-clause-by_journal : goal.returns-in-Err-clause-by_journal
returns-in-Err-clause-by_journal g c = λ by fine. by
