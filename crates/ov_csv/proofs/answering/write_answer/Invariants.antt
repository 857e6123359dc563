use Rattle.std.proofs.Common.{◌≡◌, take}
use Rattle.std.specs.Prelude.{Some}
use Rattle.ov_model.specs.Answers.{answer_text}
use Rattle.ov_csv.proofs.answering.write_answer.Given as goal

-- the text of the rows so far
abbrev pub invariant-loop-cells : goal.invariant-loop-cells
invariant-loop-cells l = l.text ≡ Some (answer_text l.kinds (take l.cells-index l.rows))
