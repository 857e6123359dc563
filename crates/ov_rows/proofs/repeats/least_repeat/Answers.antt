use Rattle.std.proofs.Common.{◌≡◌, ◌-◌, ◌+◌, Some, sym, ◌∙◌, ap, arith, drop, get_or, length, length-drop}
use Rattle.std.specs.Ordering.{is_eq}
use Rattle.std.proofs.lemmas.Bool.{cond-true, cond-false}
use Rattle.std.proofs.lemmas.List.{length-map, get_or-map}
use Rattle.ov_value.specs.Rows.{key_cmp}
use Rattle.ov_rows.specs.FileRows.{FileRow, line_at, lines_at, lesser, least_repeat}
use Rattle.ov_rows.proofs.Passing.{no_more, one_more, eq_tests}
use Rattle.ov_rows.proofs.repeats.least_repeat.Goals.{then-eq, else-eq}
use Rattle.ov_rows.proofs.repeats.least_repeat.Goals as goal

pub loop-i-preserved : goal.loop-i-preserved
loop-i-preserved c =
    let schema = c.args.schema.now in
    let order = c.args.order.now in
    let lines = lines_at c.args.rows.now order in
    let i = c.loop-i.i in
    let least = c.loop-i.least in
    let a : FileRow = line_at c.args.rows.now (get_or order (i - 1) 0) in
    let b : FileRow = line_at c.args.rows.now (get_or order i 0) in
    let count : length lines ≡ length order = length-map order (line_at c.args.rows.now) in
    let tie : is_eq (key_cmp schema a.row b.row) ≡ c.eq.result =
    sym (ap is_eq (c.cmp_key.ensures ∙ (λ j. key_cmp schema (c.row-before.ensures j) (c.row.ensures j))))
    ∙ sym (eq_tests c.cmp_key.result)
    ∙ sym c.eq.ensures
    in c.loop-i.invariant
    ∙ one_more schema least lines i a b (omega arith) (omega (arith, count))
    (sym (get_or-map (line_at c.args.rows.now) order (i - 1) 0 a (omega arith)))
    (sym (get_or-map (line_at c.args.rows.now) order i 0 b (omega arith)))
    ∙ ap (λ found. least_repeat schema found (drop (i + 1 - 1) lines))
    (elim c.if-eq.branch [
      | then-eq w ↦ cond-true _ (Some (lesser least b.nth)) least (tie ∙ w.if-eq.true) ∙ ap Some (sym w.lesser.ensures) ∙ sym w.least-is
      | else-eq w ↦ cond-false _ (Some (lesser least b.nth)) least (tie ∙ w.if-eq.false) ∙ sym w.least-is
    ])

pub returns : goal.returns
returns c =
    let lines = lines_at c.args.rows.now c.args.order.now in
    let count : length lines ≡ length c.args.order.now = length-map c.args.order.now (line_at c.args.rows.now) in
    sym (c.loop-i.invariant ∙ no_more c.args.schema.now c.loop-i.least (drop (c.loop-i.i - 1) lines) (simp length-drop (omega (arith, count))))
