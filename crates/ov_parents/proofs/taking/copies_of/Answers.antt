use Rattle.std.proofs.Common.{◌+◌, List, take, sym, subst}
use Rattle.std.specs.List.{AllZip}
use Rattle.ov_segment.specs.declared.numbered.Record.{Record}
use Rattle.ov_parents.specs.Taking.{StandAt}
use Rattle.ov_parents.proofs.Taken.{one_copied}
use Rattle.ov_parents.proofs.taking.copies_of.Goals as goal

pub loop-pick-preserved : goal.loop-pick-preserved
loop-pick-preserved c =
    let k = c.loop-pick.pick-index in
    subst (λ (ts : List (List Record)). AllZip (StandAt c.args.records.now) (take (c.loop-pick.pick-index + 1) c.args.picks.now) ts) (sym c.in_ok-push.ensures.items)
    (one_copied c.args.records.now c.args.picks.now k c.loop-pick.tables.items c.pick-item.result c.as_slice.result.now c.in_ok-copies_at.field-0 c.loop-pick-test.true c.pick-item.is c.as_slice.ensures
    c.requires c.in_ok-copies_at.ensures c.loop-pick.invariant)
