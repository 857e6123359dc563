use Rattle.std.proofs.lemmas.Result.{IfOk-weaker}
use Rattle.ov_session.proofs.Widening.{off_found, wide_found, wide_taken}
use Rattle.ov_session.proofs.changing.wide_rows.Goals as goal

pub returns-in-Ok-clause-fit : goal.returns-in-Ok-clause-fit
returns-in-Ok-clause-fit g c =
    IfOk-weaker c.rows_by.result _ _
    (λ found fit. wide_taken c.args.schema.now c.in-Ok.wide c.args.added.now c.in-Ok.ensures.ok found fit) c.rows_by.ensures.fit

pub returns-in-Ok-clause-found : goal.returns-in-Ok-clause-found
returns-in-Ok-clause-found g c = λ told.
    let files = (g.T.Stage.staged c.args.stage.now).files
    in IfOk-weaker c.rows_by.result _ _
    (λ found so. wide_found c.args.schema.now c.in-Ok.wide c.args.added.now c.in-Ok.ensures.ok c.args.file.now files found so) (c.rows_by.ensures.found told)

pub returns-in_ok-schema_refused-in-Err-clause-found : goal.returns-in_ok-schema_refused-in-Err-clause-found
returns-in_ok-schema_refused-in-Err-clause-found g c = λ told.
    let files = (g.T.Stage.staged c.args.stage.now).files
    in off_found c.args.schema.now c.args.added.now c.in-Err.off _ c.args.file.now files
    (c.in-Err.ensures.err c.in_ok-schema_refused-in-Err.ensures.some) c.in_ok-schema_refused-in-Err.ensures.refusal
