use Rattle.std.proofs.Common.{◌≡◌, ◌+◌, ◌-◌, [], refl, sym, ◌∙◌, ap, get_or, arith}
use Rattle.ov_value.specs.Rows.{key_cmp}
use Rattle.ov_value.specs.Order.{key_cmp_total}
use Rattle.ov_rows.proofs.Standing.{climb_more, not_less_of, rise_of, step_of, less_of}
use Rattle.ov_registry.proofs.rows.are_rising.Goals as goal

pub returns-then-not-is_below : goal.returns-then-not-is_below
returns-then-not-is_below c =
    let rows = c.args.rows.now in
    let i = c.loop-i.i in (
      λ e. absurd cc,
      λ up.
          let next : i - 1 + 1 ≡ i = omega arith in
          absurd (not_less_of _ (sym c.is_below.ensures ∙ c.if-not-is_below.true)
          (ap (λ n. key_cmp c.args.schema.now (get_or rows (i - 1) []) (get_or rows n [])) (sym next) ∙ step_of (key_cmp c.args.schema.now) rows (i - 1) [] up (omega arith))),
    )

pub loop-i-preserved : goal.loop-i-preserved
loop-i-preserved c =
    climb_more (key_cmp c.args.schema.now) c.args.rows.now c.loop-i.i [] [] (omega arith) (omega arith) c.loop-i.invariant
    (less_of _ (sym c.is_below.ensures ∙ c.if-not-is_below.false))

pub returns : goal.returns
returns c =
    let test = c.loop-i-test.false in
    (λ e. rise_of (key_cmp c.args.schema.now) (key_cmp_total c.args.schema.now) c.args.rows.now (λ k d low. c.loop-i.invariant k d (omega (arith, low, test))), λ up. refl)
