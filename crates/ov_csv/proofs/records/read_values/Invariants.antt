use Rattle.ov_csv.proofs.Rows.{SoFar}
use Rattle.ov_csv.proofs.records.read_values.Given as goal

-- the fields before the place have these values, and the answer is that of the others
abbrev pub invariant-loop-place : goal.invariant-loop-place
invariant-loop-place l = SoFar l.row l.columns l.texts l.place l.draft
