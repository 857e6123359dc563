use Rattle.std.proofs.Common.{◌≡◌, arith, None}
use Rattle.ov_model.specs.Csv.{row_refusal}
use Rattle.ov_csv.proofs.IsRows.{row-kept}
use Rattle.ov_csv.proofs.NullKeys.{row_long, row_good}
use Rattle.ov_csv.proofs.records.row_of.Goals as goal

pub returns-then-len-gt-LONGEST_ROW-clause-err : goal.returns-then-len-gt-LONGEST_ROW-clause-err
returns-then-len-gt-LONGEST_ROW-clause-err c =
    row_long c.args.schema.now c.args.row c.args.texts.now c.requires.width c.requires.text c.in_ok-read_values.ensures.none c.in_ok-refuse_null_key.ensures.none
    (omega (arith, c.len.ensures _ c.in_ok-read_values.ensures.ok, c.if-len-gt-LONGEST_ROW.true))

pub returns-clause-none : goal.returns-clause-none
returns-clause-none c =
    row_good c.args.schema.now c.args.row c.args.texts.now c.requires.width c.requires.text c.in_ok-read_values.ensures.none c.in_ok-refuse_null_key.ensures.none
    (omega (arith, c.len.ensures _ c.in_ok-read_values.ensures.ok, c.if-len-gt-LONGEST_ROW.false))

pub returns-clause-row : goal.returns-clause-row
returns-clause-row c =
    let none : row_refusal c.args.schema.now c.args.row c.args.texts.now ≡ None =
    row_good c.args.schema.now c.args.row c.args.texts.now c.requires.width c.requires.text c.in_ok-read_values.ensures.none c.in_ok-refuse_null_key.ensures.none
    (omega (arith, c.len.ensures _ c.in_ok-read_values.ensures.ok, c.if-len-gt-LONGEST_ROW.false)) in
    (row-kept c.args.schema.now c.args.row c.args.texts.now c.columns-columns.ensures.sound none).is_row
