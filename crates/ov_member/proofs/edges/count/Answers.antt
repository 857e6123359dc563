use Rattle.std.proofs.Common.{arith}
use Rattle.ov_member.proofs.EdgeLemmas.{counted_more, count-bound}
use Rattle.ov_member.proofs.edges.count.Goals as goal

pub overflow_add-count : goal.overflow_add-count
overflow_add-count c =
    let more = counted_more c.loop-rest.count _ c.loop-rest.rest.now c.loop-rest.invariant.0 c.loop-rest.invariant.1 c.in-len2-up.len_at_least in
    omega (arith, more.sum, count-bound c.args.edges.now c.requires.ascend)

pub loop-rest-preserved : goal.loop-rest-preserved
loop-rest-preserved c =
    let more = counted_more c.loop-rest.count _ c.loop-rest.rest.now c.loop-rest.invariant.0 c.loop-rest.invariant.1 c.in-len2-up.len_at_least in
    (more.sum, more.ascend)
