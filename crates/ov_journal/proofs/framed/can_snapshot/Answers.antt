use Rattle.std.proofs.Common.{length, ap, arith}
use Rattle.std.proofs.lemmas.Bool.{false≢true}
use Rattle.ov_journal.proofs.Frames.{too_long}
use Rattle.ov_journal.proofs.framed.can_snapshot.Goals as goal

pub returns-then-left-size : goal.returns-then-left-size
returns-then-left-size c = (
  λ h. absurd (false≢true h),
  λ small. absurd (too_long c.args.payloads.now c.loop-payload.payload-index c.loop-payload.left c.payload-item.result c.loop-payload-test.true c.payload-item.is c.loop-payload.invariant (omega (arith, c.if-left-size.true, ap length c.as_slice.ensures)) small),
)
