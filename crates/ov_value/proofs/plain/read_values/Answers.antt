use Rattle.std.proofs.Common.{◌≡◌, length, subst, arith}
use Rattle.ov_value.proofs.Columns.{HasRead, read_next, read_none, read_only}
use Rattle.ov_value.proofs.plain.read_values.Goals as goal
use Rattle.ov_value.proofs.plain.read_values.Goals.{then-is_empty, else-is_empty}

pub returns-in-None-clause-only : goal.returns-in-None-clause-only
returns-in-None-clause-only c =
    read_none _ _ _ _ _ _ _ c.column-item.result c.loop-column.invariant c.loop-column-test.true c.column-item.is (rw c.in-None.is at c.in_ok-next_value.ensures.none)

pub loop-column-preserved : goal.loop-column-preserved
loop-column-preserved c =
    rw c.in_ok-push-in-Some.ensures.items
    (read_next _ _ _ _ _ _ _ c.column-item.result c.in-Some.value c.in-Some.after.now c.loop-column.invariant c.loop-column-test.true c.column-item.is
    (rw c.in-Some.is at c.in_ok-next_value.ensures.found))

pub returns-clause-only : goal.returns-clause-only
returns-clause-only c row lies =
    let last : c.loop-column.column-index ≡ length c.args.columns.now = omega arith in
    let whole : HasRead c.args.columns.now c.args.nulls c.args.bytes.now (length c.args.columns.now) c.loop-column.values.items c.loop-column.marks c.loop-column.rest.now =
    subst (λ n. HasRead c.args.columns.now c.args.nulls c.args.bytes.now n c.loop-column.values.items c.loop-column.marks c.loop-column.rest.now) last c.loop-column.invariant in
    let ended = read_only _ _ _ _ _ _ whole row lies in
    elim c.if-is_empty.branch [
      | then-is_empty w ↦ rw w.result-is ended.0
      | else-is_empty w ↦ let rest : length c.loop-column.rest.now ≡ 0 = ended.1 in absurd (grind arith)
    ]
