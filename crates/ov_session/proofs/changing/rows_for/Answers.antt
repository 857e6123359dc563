use Rattle.std.proofs.Common.{◌≡◌, ◌∙◌, sym, ap, subst}
use Rattle.std.proofs.lemmas.Option.{same_Some}
use Rattle.std.proofs.lemmas.Result.{IfOk-weaker}
use Rattle.ov_catalog.specs.Sets.{set_in as numbers_of}
use Rattle.ov_model.specs.Act.{schema_with}
use Rattle.ov_store.specs.Committing.{Set}
use Rattle.ov_store.specs.Scanning.{set_in}
use Rattle.std.specs.Prelude.{IfOk}
use Rattle.ov_session.proofs.Asking.{asked_found, asked_off, refused_as}
use Rattle.ov_session.proofs.Replying.{stored_seen}
use Rattle.ov_session.proofs.Widening.{each_found, found_when, read_by, set_of}
use Rattle.ov_session.specs.Commands.{HasFileRows, HasWideRows}
use Rattle.ov_session.specs.Errors.{reply_of}
use Rattle.ov_store.specs.Committing.{schema_for}
use Rattle.ov_session.proofs.changing.rows_for.Goals as goal

pub returns-in-Ok-clause-fit : goal.returns-in-Ok-clause-fit
returns-in-Ok-clause-fit g c = λ set is.
    let same : numbers_of c.in-Ok.d.now ≡ set = same_Some _ set (sym c.in-Ok.ensures.found ∙ ap (set_in c.args.store.now.held.numbers) c.as_str.ensures.text ∙ is)
    in subst (λ (x : Set). IfOk c.wide_rows.result (HasWideRows x.schema c.args.added.now)) same c.wide_rows.ensures.fit

pub returns-in-Ok-clause-found : goal.returns-in-Ok-clause-found
returns-in-Ok-clause-found g c =
    each_found _ c.wide_rows.result
    (λ found. set_of _ (numbers_of c.in-Ok.d.now) found (ap (set_in c.args.store.now.held.numbers) (sym c.as_str.ensures.text) ∙ c.in-Ok.ensures.found))

pub returns-in-Ok-clause-read : goal.returns-in-Ok-clause-read
returns-in-Ok-clause-read g c = λ set is.
    let same : numbers_of c.in-Ok.d.now ≡ set = same_Some _ set (sym c.in-Ok.ensures.found ∙ ap (set_in c.args.store.now.held.numbers) c.as_str.ensures.text ∙ is)
    in let stage = g.T.Stage.staged c.args.stage.now
    in subst (λ (x : Set). IfOk c.wide_rows.result (HasFileRows (schema_for x.schema c.args.added.now) c.args.file.now stage)) same
    (found_when _ _ _ c.wide_rows.result c.wide_rows.ensures.found
    (λ found so. read_by (schema_with c.in-Ok.d.now.schema c.args.added.now) c.in-Ok.d.now.schema c.args.file.now stage found so))

pub returns-in-Ok-clause-asked : goal.returns-in-Ok-clause-asked
returns-in-Ok-clause-asked g c = λ w t s message told at files.
    let fine = c.in-Ok.ensures.world w t at
    in IfOk-weaker c.wide_rows.result _ _
    (λ found so. asked_found w s c.as_str.result.now c.args.cvd.now c.args.vids.now message c.args.added.now c.args.file.now c.as_str.ensures.text
    (g.T.Stage.staged c.args.stage.now).files files c.in-Ok.d.now.schema found fine.0 fine.1 so)
    (c.wide_rows.ensures.found told)

pub returns-in_ok-refused-in-Err-clause-asked : goal.returns-in_ok-refused-in-Err-clause-asked
returns-in_ok-refused-in-Err-clause-asked g c = λ w t s message told at files.
    let same = c.in_ok-name-in-Err.ensures.ok ∙ sym c.as_str.ensures.text
    in let off = refused_as c.as_str.result.now _ c.in-Err.off c.in_ok-refused-in-Err.field-0 c.in-Err.ensures.why (c.in-Err.ensures.world w t at)
    (ap (λ n. reply_of n c.in-Err.off) (sym same) ∙ c.in_ok-refused-in-Err.ensures.reply)
    in (
      off.0,
      off.1,
      asked_off w s c.as_str.result.now c.args.cvd.now c.args.vids.now message c.args.added.now c.args.file.now c.as_str.ensures.text off.0 off.2,
    )

pub returns-in_ok-refused-in-Err-clause-missed : goal.returns-in_ok-refused-in-Err-clause-missed
returns-in_ok-refused-in-Err-clause-missed g c = λ file is.
    absurd (stored_seen _ c.in-Err.off c.in_ok-refused-in-Err.field-0 c.in_ok-refused-in-Err.ensures.reply file is)
