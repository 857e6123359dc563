use Rattle.std.proofs.Common.{◌≡◌, take}
use Rattle.std.specs.Prelude.{Some}
use Rattle.ov_model.specs.Csv.{text_of}
use Rattle.ov_fetch.specs.Scans.{rows_at}
use Rattle.ov_csv.proofs.scans.write_csv.Given as goal

-- the text of the rows so far
abbrev pub invariant-loop-place : goal.invariant-loop-place
invariant-loop-place l = l.text ≡ Some (text_of l.schema (rows_at l.scan.records (take l.place-index l.picks)))
