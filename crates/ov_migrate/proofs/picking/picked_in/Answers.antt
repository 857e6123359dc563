use Rattle.std.proofs.Common.{◌≡◌, ◌++◌, ℕ, List, take, drop, inl, inr, sym, arith, ap}
use Rattle.std.proofs.lemmas.List.{take-append-drop}
use Rattle.ov_migrate.proofs.Walking.{ends, goes_on}
use Rattle.ov_migrate.proofs.picking.picked_in.Goals as goal
use Rattle.ov_migrate.proofs.picking.picked_in.Goals.{then-loop-left-test+else-rest-ge-RANGE_BYTES, else-loop-left-test}

pub loop-left-init : goal.loop-left-init
loop-left-init c rids spells = record { later = rids; spells = spells; same = ap (λ (l : List ℕ). l ++ take c.args.most (drop c.args.from rids)) (sym c.new-found.ensures.items) }

pub loop-left-preserved : goal.loop-left-preserved
loop-left-preserved c rids spells =
    let range = c.split_at.result.0.now in
    let others = c.split_at.result.1.now in
    let rest = c.loop-left.rest.now in
    let parts : c.loop-left.rest.now ≡ c.split_at.result.0.now ++ c.split_at.result.1.now = sym (rw (c.split_at.ensures.front, c.split_at.ensures.back) (take-append-drop 8 c.loop-left.rest.now)) in
    goes_on rids rest range others c.loop-left.found.items c.push_run.new.found.items c.args.from c.args.most c.loop-left.passed c.loop-left.left
    c.numbers_of-first.result.0 c.numbers_of-first.result.1 c.min-skipped.result c.min-taken.result (c.loop-left.invariant rids spells)
    (omega (arith, c.if-rest-ge-RANGE_BYTES.true)) parts c.numbers_of-first.ensures (omega arith) (omega arith) c.min-skipped.ensures c.min-taken.ensures
    (c.in_ok-push_run.ensures)

pub returns : goal.returns
returns c rids spells =
    ends rids c.loop-left.rest.now c.loop-left.found.items c.args.from c.args.most c.loop-left.passed c.loop-left.left (c.loop-left.invariant rids spells)
    (elim c.loop-left-test.branch [
      | then-loop-left-test+else-rest-ge-RANGE_BYTES w ↦ inr (omega (arith, w.if-rest-ge-RANGE_BYTES.false))
      | else-loop-left-test w ↦ inl (omega (arith, w.loop-left-test.false))
    ])
