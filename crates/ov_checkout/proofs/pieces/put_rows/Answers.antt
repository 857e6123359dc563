use Rattle.std.proofs.Common.{rules, ◌∙◌, ℕ, List, take, subst, sym, get_or}
use Rattle.std.specs.List.{flat_map}
use Rattle.csv.specs.Writing.{default_writer, row_text}
use Rattle.ov_model.specs.Book.{Row}
use Rattle.ov_model.specs.Csv.{fields_of}
use Rattle.ov_fetch.specs.Scans.{row_at, rows_at}
use Rattle.ov_csv.specs.Growing.{Grows}
use Rattle.ov_checkout.specs.Given.{behind}
use Rattle.ov_checkout.proofs.Writing.{serves_more, open_more, grows_more, lines_more}
use Rattle.ov_checkout.proofs.pieces.put_rows.Goals as goal

pub loop-place-preserved : goal.loop-place-preserved
loop-place-preserved g c =
    let keeps = c.in_ok-put_row.ensures.keeps
    in let inv = c.loop-place.invariant
    in let entry = g.T.Stage.staged c.args.stage.now
    in let old = g.T.Stage.staged c.loop-place.stage
    in let new = g.T.Stage.staged c.put_row.new.stage
    in let line : Row → List ℕ = λ row. row_text default_writer (fields_of c.args.columns.now row)
    in let i = c.loop-place.place-index
    in (
      serves_more entry old new inv.0 keeps.serves,
      open_more entry old new inv.0 inv.1 keeps.ends,
      c.in_ok-put_row.ensures.text,
      λ told.
          subst (λ (text : List ℕ). Grows (behind entry c.args.text.now) text (behind new c.put_row.new.text))
          (sym (lines_more line (row_at c.args.records.now) c.args.places.now i 0 (search rules)))
          (grows_more (behind entry c.args.text.now) (behind old c.loop-place.text) (behind new c.put_row.new.text)
          (flat_map line (rows_at c.args.records.now (take i c.args.places.now))) (line (row_at c.args.records.now (get_or c.args.places.now i 0)))
          (inv.3 told)
          (subst (λ (row : Row). Grows (behind old c.loop-place.text) (line row) (behind new c.put_row.new.text)) c.cells_at.ensures (c.in_ok-put_row.ensures.written (inv.0.told ∙ told)))),
    )
