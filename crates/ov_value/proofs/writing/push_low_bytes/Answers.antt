use Rattle.ov_value.proofs.LowBytes.{push_step}
use Rattle.ov_value.proofs.Fronts.{front_push}
use Rattle.ov_value.proofs.writing.push_low_bytes.Goals as goal

pub loop-preserved : goal.loop-preserved
loop-preserved c =
    rw c.in_ok-push.ensures.items
    (push_step _ _ c.args.count c.loop.counter c.loop.rest c.loop-test.true c.loop.invariant.0, front_push _ _ _ c.loop.invariant.1)
