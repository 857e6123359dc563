use Rattle.std.proofs.Common.{◌≡◌, ◌+◌, ◌-◌, [], refl, sym, ◌∙◌, ap, get_or, arith}
use Rattle.ov_value.specs.Rows.{key_cmp}
use Rattle.ov_value.specs.Order.{key_cmp_total}
use Rattle.ov_front.specs.Fronts.{front_of}
use Rattle.ov_rows.specs.Keyed.{row_at}
use Rattle.ov_rows.proofs.Fronts.{tells_next, front_told}
use Rattle.ov_rows.proofs.Standing.{climb_more, not_less_of, rise_of, step_of, less_of}
use Rattle.ov_rows.proofs.repeats.keys_rise.Goals as goal

pub stands_above-requires-clause-tells : goal.stands_above-requires-clause-tells
stands_above-requires-clause-tells c =
    tells_next c.kind_begin-begin.result c.args.schema.now (row_at c.args.rows.now (c.loop-i.i - 1)) (row_at c.args.rows.now c.loop-i.i) c.loop-i.before c.front_of-front.result c.loop-i.invariant.front
    (c.front_of-front.ensures ∙ ap (front_of c.kind_begin-begin.result c.args.schema.now) c.row.ensures)

pub returns-then-not-stands_above : goal.returns-then-not-stands_above
returns-then-not-stands_above c =
    let rows = c.args.rows.now in
    let i = c.loop-i.i in (
      λ e. absurd cc,
      λ up.
          let next : i - 1 + 1 ≡ i = omega arith in
          absurd (not_less_of _ (sym c.stands_above.ensures ∙ c.if-not-stands_above.true)
          (ap (λ n. key_cmp c.args.schema.now (get_or rows (i - 1) []) (get_or rows n [])) (sym next) ∙ step_of (key_cmp c.args.schema.now) rows (i - 1) [] up (omega arith))),
    )

pub loop-i-preserved : goal.loop-i-preserved
loop-i-preserved c =
    let i = c.loop-i.i in
    let same : i ≡ i + 1 - 1 = omega arith in
    record {
      climbs = climb_more (key_cmp c.args.schema.now) c.args.rows.now i [] [] (omega arith) (omega arith) c.loop-i.invariant.climbs (less_of _ (sym c.stands_above.ensures ∙ c.if-not-stands_above.false));
      front = front_told c.kind_begin-begin.result c.args.schema.now c.args.rows.now i (i + 1 - 1) c.front_of-front.result same (c.front_of-front.ensures ∙ ap (front_of c.kind_begin-begin.result c.args.schema.now) c.row.ensures);
    }

pub returns : goal.returns
returns c =
    let test = c.loop-i-test.false in
    (λ e. rise_of (key_cmp c.args.schema.now) (key_cmp_total c.args.schema.now) c.args.rows.now (λ k d low. c.loop-i.invariant.climbs k d (omega (arith, low, test))), λ up. refl)
