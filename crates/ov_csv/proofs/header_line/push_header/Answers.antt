use Rattle.std.proofs.Common.{arith}
use Rattle.std.proofs.lemmas.Result.{on_ok_weaker}
use Rattle.ov_value.specs.Shapes.{names}
use Rattle.ov_csv.proofs.LineLemmas.{line_is}
use Rattle.ov_csv.proofs.header_line.push_header.Goals as goal

pub returns : goal.returns
returns c = on_ok_weaker c.end_line.result (λ is. line_is c.args.text.now.items (names c.args.columns.now) c.len-start.result c.push_names.new.text.items c.end_line.new.text.items (omega (arith, c.len-start.ensures)) c.in_ok-push_names.ensures is) c.end_line.ensures
