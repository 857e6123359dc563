use Rattle.std.proofs.Common.{rules}
use Rattle.ov_tally.proofs.Cutting.{span_more, spans_kept}
use Rattle.ov_tally.proofs.first.low_spans.Goals as goal

pub loop-span-preserved : goal.loop-span-preserved
loop-span-preserved c =
    span_more c.args.version c.args.ranks.now c.args.keys.now c.args.spans.now c.loop-span.span-index c.args.bound (record { first = 0; past = 0 }) c.loop-span.kept.items _ _ c.loop-span-test.true c.in_ok-low_in.ensures c.loop-span.invariant

pub returns : goal.returns
returns c = spans_kept c.args.bound c.args.version c.args.ranks.now c.args.keys.now c.args.spans.now c.loop-span.span-index c.loop-span.kept.items _ (search rules) c.loop-span.invariant
