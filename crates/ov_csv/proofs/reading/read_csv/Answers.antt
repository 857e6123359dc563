-- The rows are those of the text, which are rows of the schema.
use Rattle.std.proofs.Common.{◌≡◌, rules}
use Rattle.std.specs.Prelude.{Ok}
use Rattle.ov_model.specs.Csv.{rows_of}
use Rattle.ov_csv.proofs.IsRows.{rows-are_rows, rows-short}
use Rattle.ov_csv.proofs.reading.read_csv.Goals as goal

pub returns-clause-rows : goal.returns-clause-rows
returns-clause-rows c =
    let read : rows_of c.args.schema.now c.args.bytes.now ≡ Ok c.new.result = search rules in
    rows-are_rows c.args.schema.now c.args.bytes.now c.new.result c.columns.ensures.sound read

pub returns-clause-short : goal.returns-clause-short
returns-clause-short c =
    let read : rows_of c.args.schema.now c.args.bytes.now ≡ Ok c.new.result = search rules in
    rows-short c.args.schema.now c.args.bytes.now c.new.result c.columns.ensures.sound read
