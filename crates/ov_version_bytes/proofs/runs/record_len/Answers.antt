use Rattle.std.proofs.Common.{arith, length, ◌≡◌, ap, ◌∙◌}
use Rattle.ov_value.specs.Spelling.{row_spelling}
use Rattle.ov_version_bytes.specs.Positions.{record_at}
use Rattle.ov_version_bytes.proofs.Keeping.{record_long}
use Rattle.ov_version_bytes.proofs.runs.record_len.Goals as goal

pub returns : goal.returns
returns c =
    let spelled = c.bytes.ensures
    in let size : length c.bytes.result.now ≡ length (row_spelling (record_at c.args.rows.now c.args.one.now).row).bytes =
    ap (λ bs. length bs) spelled ∙ ap (λ row. length (row_spelling row).bytes) c.row.ensures
    in omega (arith, c.saturating_add.ensures, size, record_long (record_at c.args.rows.now c.args.one.now))
