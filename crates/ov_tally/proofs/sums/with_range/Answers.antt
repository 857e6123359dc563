use Rattle.std.proofs.Common.{rules}
use Rattle.ov_tally.proofs.Ranges.{range_is}
use Rattle.ov_tally.proofs.sums.with_range.Goals as goal

pub returns-clause-is : goal.returns-clause-is
returns-clause-is c values is =
    range_is c.args.totals.now values c.args.span.first c.args.span.past c.args.sum _ c.total_at-past.result c.total_at-first.result c.requires.below.0 c.requires.below.1 is c.total_at-past.ensures.is c.total_at-first.ensures.is (search rules)
