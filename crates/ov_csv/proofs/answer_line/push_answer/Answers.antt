use Rattle.std.proofs.Common.{arith}
use Rattle.std.proofs.lemmas.Result.{on_ok_weaker}
use Rattle.ov_model.specs.Answers.{cell_fields}
use Rattle.ov_csv.proofs.LineLemmas.{line_is}
use Rattle.ov_csv.proofs.answer_line.push_answer.Goals as goal

pub returns : goal.returns
returns c = on_ok_weaker c.end_line.result (λ is. line_is c.args.text.now.items (cell_fields c.args.kinds.now c.args.cells.now) c.len-start.result c.push_fields.new.text.items c.end_line.new.text.items (omega (arith, c.len-start.ensures)) c.in_ok-push_fields.ensures is) c.end_line.ensures
