-- A record that is no row refuses the others.
use Rattle.std.proofs.Common.{◌∙◌, sym}
use Rattle.ov_plain_csv.proofs.RowByRow.{rows-refused}
use Rattle.ov_plain_csv.proofs.csv_rows.+rows_from.Goals as goal

pub returns-in-Err : goal.returns-in-Err
returns-in-Err t c =
    rows-refused c.args.schema.now c.args.nth c.args.records.now c.fields-item.result c.in-Err.refusal c.in-len1-up.len_at_least c.fields-item.is
    (sym c.in-Err.is ∙ rw c.as_slice.ensures at c.in_ok-refusal-in-len1-up.ensures)
