use Rattle.std.proofs.Common.{◌≡◌, take}
use Rattle.std.specs.Prelude.{Some}
use Rattle.ov_model.specs.Csv.{text_of}
use Rattle.ov_csv.proofs.csv_text.write_rows.Given as goal

-- the text of the rows so far
abbrev pub invariant-loop-place : goal.invariant-loop-place
invariant-loop-place l = l.text ≡ Some (text_of l.schema (take l.place l.rows))
