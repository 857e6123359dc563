use Rattle.std.proofs.Common.{◌≡◌, drop, nat_eq}
use Rattle.std.specs.Cmp.Lexicographic.{pointwise}
use Rattle.ov_value.specs.Shapes.{names}
use Rattle.ov_csv.proofs.names.are_names.Given as goal

-- those before the place are the same, so the answer is that of the others
abbrev pub invariant-loop-place : goal.invariant-loop-place
invariant-loop-place l = pointwise (pointwise nat_eq) l.line (names l.columns) ≡ pointwise (pointwise nat_eq) (drop l.place l.line) (names (drop l.place l.columns))
