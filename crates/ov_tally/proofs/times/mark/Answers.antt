use Rattle.std.proofs.Common.{suc}
use Rattle.ov_tally.proofs.Marks.{marked, two_more}
use Rattle.ov_tally.proofs.times.mark.Goals as goal

pub returns-clause-totals : goal.returns-clause-totals
returns-clause-totals c p =
    marked c.args.sums.now.items c.raise.new.sums.items c.raise-2.new.sums.items c.args.span.first c.args.span.past c.requires.below.0 c.raise.ensures.low c.raise.ensures.high c.raise-2.ensures.low c.raise-2.ensures.high p

pub returns-clause-within : goal.returns-clause-within
returns-clause-within c n all = two_more n c.raise-2.new.sums.items (c.raise-2.ensures.within (suc n) (c.raise.ensures.within n all))
