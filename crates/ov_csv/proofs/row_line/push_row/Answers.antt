use Rattle.std.proofs.Common.{arith}
use Rattle.std.proofs.lemmas.Result.{on_ok_weaker}
use Rattle.ov_model.specs.Csv.{fields_of}
use Rattle.ov_csv.proofs.LineLemmas.{line_is}
use Rattle.ov_csv.proofs.row_line.push_row.Goals as goal

pub returns : goal.returns
returns c = on_ok_weaker c.end_line.result (λ is. line_is c.args.text.now.items (fields_of c.args.columns.now c.args.row) c.len-start.result c.push_cells.new.text.items c.end_line.new.text.items (omega (arith, c.len-start.ensures)) c.in_ok-push_cells.ensures is) c.end_line.ensures
