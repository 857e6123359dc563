use Rattle.std.proofs.Common.{drop}
use Rattle.ov_model.specs.Csv.{fields_of}
use Rattle.ov_csv.proofs.LineLemmas.{Writes}
use Rattle.ov_csv.proofs.row_line.push_cells.Given as goal

abbrev pub invariant-loop-place : goal.invariant-loop-place
invariant-loop-place l = Writes l.fn.text.items (fields_of l.columns l.fn.row) l.place (fields_of (drop l.place l.columns) l.rest) l.text.items
