use Rattle.std.proofs.Common.{rules}
use Rattle.ov_tally.proofs.Cutting.{all_kept, version_more}
use Rattle.ov_tally.proofs.first.low_of.Goals as goal

pub loop-spans-preserved : goal.loop-spans-preserved
loop-spans-preserved c = record {
  number = search rules;
  told = version_more c.args.ranks.now c.args.keys.now c.args.versions.now c.loop-spans.spans-index c.args.bound c.loop-spans.version c.spans-item.result c.as_slice.result.now c.loop-spans.kept.items _ _ c.loop-spans-test.true c.loop-spans.invariant.number c.spans-item.is c.as_slice.ensures.value c.in_ok-low_spans.ensures c.loop-spans.invariant.told;
}

pub returns : goal.returns
returns c = all_kept c.args.bound c.loop-spans.spans-index c.args.ranks.now c.args.keys.now c.args.versions.now c.loop-spans.spans-index c.loop-spans.kept.items _ (search rules) c.loop-spans.invariant.told
