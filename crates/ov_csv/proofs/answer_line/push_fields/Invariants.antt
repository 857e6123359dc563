use Rattle.std.proofs.Common.{drop}
use Rattle.ov_model.specs.Answers.{cell_fields}
use Rattle.ov_csv.proofs.LineLemmas.{Writes}
use Rattle.ov_csv.proofs.answer_line.push_fields.Given as goal

abbrev pub invariant-loop-place : goal.invariant-loop-place
invariant-loop-place l = Writes l.fn.text.items (cell_fields l.kinds l.cells) l.place (cell_fields (drop l.place l.kinds) (drop l.place l.cells)) l.text.items
