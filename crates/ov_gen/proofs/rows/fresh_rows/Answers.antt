use Rattle.std.proofs.Common.{◌≡◌, ◌+◌, ◌-◌, ◌∷◌, ◌++◌, [], List, ap, sym, ◌∙◌, append_assoc}
use Rattle.ov_model.specs.Book.{Row}
use Rattle.ov_model.specs.Generator.{Drawn, fresh_row as fresh_row_of, fresh_rows as fresh_rows_of}
use Rattle.ov_gen.proofs.Growing.{fresh-more}
use Rattle.ov_gen.proofs.rows.fresh_rows.Goals as goal

pub loop-before-preserved : goal.loop-before-preserved
loop-before-preserved c =
    let before = c.loop-before.before in
    let state = c.loop-before.state in
    let items = c.loop-before.rows.items in
    let more = fresh-more c.args.count before state c.loop-before-test.true in
    let row : c.in_ok-fresh_row.field-0 ≡ (fresh_row_of (1 + before) state).is = c.in_ok-fresh_row.ensures.row ∙ ap (λ n. (fresh_row_of (1 + n) state).is) c.from.ensures in
    let after : c.fresh_row.new.state ≡ (fresh_row_of (1 + before) state).state = c.in_ok-fresh_row.ensures.state ∙ ap (λ n. (fresh_row_of (1 + n) state).state) c.from.ensures in
    let rest = (fresh_rows_of (c.args.count - (before + 1)) (1 + (before + 1)) (fresh_row_of (1 + before) state).state).is in
    record {
      rows = rw (c.in_ok-push.ensures.items, row, after) (c.loop-before.invariant.rows ∙ ap (λ (d : Drawn (List Row)). items ++ d.is) more ∙ sym (append_assoc items ((fresh_row_of (1 + before) state).is ∷ []) rest));
      state = rw after (c.loop-before.invariant.state ∙ ap (λ (d : Drawn (List Row)). d.state) more);
    }
