use Rattle.std.proofs.Common.{drop}
use Rattle.ov_value.specs.Shapes.{names}
use Rattle.ov_csv.proofs.LineLemmas.{Writes}
use Rattle.ov_csv.proofs.header_line.push_names.Given as goal

abbrev pub invariant-loop-place : goal.invariant-loop-place
invariant-loop-place l = Writes l.fn.text.items (names l.columns) l.place (names (drop l.place l.columns)) l.text.items
