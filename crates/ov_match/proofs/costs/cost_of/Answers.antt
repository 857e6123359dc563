use Rattle.std.proofs.Common.{arith}
use Rattle.ov_match.proofs.Counts.{parted, missing_and_shared, shared_on, left_out_on}
use Rattle.ov_match.proofs.costs.cost_of.Goals as goal

pub loop-segment-init : goal.loop-segment-init
loop-segment-init c =
    let len = c.len-coming.ensures in
    let whole = missing_and_shared c.args.target.now c.args.segments.now len.set c.requires.apart in
    record { coming = omega (arith, whole, len.count); going = omega arith; few = len.at_most; most = omega arith }

pub overflow_sub-going : goal.overflow_sub-going
overflow_sub-going c = omega (arith, c.len.ensures.count, c.common-shared.ensures, parted c.segment-item.result c.args.target.now)

pub loop-segment-preserved : goal.loop-segment-preserved
loop-segment-preserved c =
    let target = c.args.target.now in
    let segments = c.args.segments.now in
    let segment = c.segment-item.result in
    let i = c.loop-segment.segment-index in
    let before = c.loop-segment.invariant in
    let both = shared_on target segments i segment c.loop-segment-test.true c.segment-item.is in
    let out = left_out_on target segments i segment c.loop-segment-test.true c.segment-item.is in
    let parts = parted segment target in
    record {
      coming = omega (arith, before.coming, both, c.common-shared.ensures);
      going = omega (arith, before.going, out, parts, c.common-shared.ensures, c.len.ensures.count);
      few = omega (arith, before.few);
      most = omega (arith, before.most, c.len.ensures.at_most);
    }
