use Rattle.std.proofs.Common.{◌≡◌, true, take}
use Rattle.std.specs.Prelude.{is_some}
use Rattle.std.specs.List.{flat_map}
use Rattle.csv.specs.Writing.{default_writer, row_text}
use Rattle.ov_model.specs.Csv.{fields_of}
use Rattle.ov_fetch.specs.Scans.{rows_at}
use Rattle.ov_csv.specs.Growing.{Grows}
use Rattle.ov_files.specs.Files.{Serves}
use Rattle.ov_checkout.specs.Given.{IsOpenAs, behind}
use Rattle.ov_checkout.proofs.pieces.put_rows.Given as goal

-- the lines of the rows so far stand behind what was there
abbrev pub invariant-loop-place : goal.invariant-loop-place
invariant-loop-place g l =
    Serves (g.T.Stage.staged l.fn.stage) (g.T.Stage.staged l.stage)
    × IsOpenAs (g.T.Stage.staged l.fn.stage) (g.T.Stage.staged l.stage)
    × (is_some l.text ≡ true)
    × ((g.T.Stage.staged l.fn.stage).tells ≡ true
    → Grows (behind (g.T.Stage.staged l.fn.stage) l.fn.text)
    (flat_map (λ row. row_text default_writer (fields_of l.columns row)) (rows_at l.records (take l.place-index l.places)))
    (behind (g.T.Stage.staged l.stage) l.text))
