use Rattle.std.proofs.Common.{rules}
use Rattle.ov_tally.proofs.Ranges.{all_told, pushed_more, pushed_small}
use Rattle.ov_tally.proofs.sums.totals.Goals as goal

pub loop-value-preserved : goal.loop-value-preserved
loop-value-preserved c = record {
  told = pushed_more c.loop-value.totals.items _ c.loop-value.sum _ c.plus-sum.result c.args.values.now _ c.loop-value.value-index c.loop-value-test.true (search rules) (search rules) (search rules) (search rules);
  low = search rules;
  high = search rules;
  small = pushed_small c.loop-value.totals.items _ c.plus-sum.result c.plus-sum.result (search rules) (search rules) (search rules) (search rules) c.loop-value.invariant.small;
}

pub returns-clause-totals : goal.returns-clause-totals
returns-clause-totals c = search (rules, all_told)
