-- One column more has a kind.
use Rattle.ov_typing.proofs.Lists.{cols-more}
use Rattle.ov_typing.proofs.typing.take_cols.Goals as goal

pub loop-col-preserved : goal.loop-col-preserved
loop-col-preserved c =
    let before = c.loop-col.invariant in
    (_, cols-more c.args.place.now.schema _ _ _ _ before.0 c.loop-col-test.true c.col-item.is c.in_ok-col_kind.ensures before.1)
