use Rattle.std.proofs.Common.{◌++◌, ap, rules, sym}
use Rattle.std.specs.Prelude.{filter}
use Rattle.ov_tally.specs.Ranks.{is_low}
use Rattle.ov_tally.proofs.Cutting.{low_more, none_left, one_range}
use Rattle.ov_tally.proofs.first.low_in.Goals as goal

pub loop-place-init : goal.loop-place-init
loop-place-init c = ap (λ l. c.args.kept.now.items ++ filter (is_low c.args.bound) l) (sym (one_range c.args.version c.args.ranks.now c.args.keys.now c.args.span))

pub loop-place-preserved : goal.loop-place-preserved
loop-place-preserved c =
    low_more c.args.version c.args.ranks.now c.args.keys.now c.loop-place.place c.args.span.past c.args.bound c.number_at-rank.result c.loop-place.kept.items _ _ c.loop-place-test.true c.number_at-rank.ensures c.in_ok-push_low.ensures c.loop-place.invariant

pub returns : goal.returns
returns c = none_left c.args.version c.args.ranks.now c.args.keys.now c.loop-place.place c.args.span.past c.args.bound c.loop-place.kept.items _ (search rules) c.loop-place.invariant
