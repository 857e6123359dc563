use Rattle.std.proofs.Common.{rules}
use Rattle.ov_tally.proofs.Ranges.{spans_more}
use Rattle.ov_tally.proofs.sums.sum_over.Goals as goal

pub loop-span-preserved : goal.loop-span-preserved
loop-span-preserved c = record {
  told = λ values is.
      spans_more c.args.spans.now values c.loop-span.span-index (record { first = 0; past = 0 }) c.loop-span.sum _ _ c.loop-span-test.true (search (rules, c.with_range-sum.ensures.is values is)) (search (rules, c.loop-span.invariant.told values is));
  low = search rules;
  high = search rules;
}
