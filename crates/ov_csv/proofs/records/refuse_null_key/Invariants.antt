use Rattle.std.proofs.Common.{◌≡◌, drop}
use Rattle.ov_model.specs.Csv.{null_key, row_in}
use Rattle.ov_csv.proofs.records.refuse_null_key.Given as goal

-- the answer is that of the columns from the place on
abbrev pub invariant-loop-place : goal.invariant-loop-place
invariant-loop-place l =
    null_key l.schema l.row 0 l.schema.columns (row_in l.schema.columns l.texts)
    ≡ null_key l.schema l.row l.place (drop l.place l.schema.columns) (drop l.place (row_in l.schema.columns l.texts))
