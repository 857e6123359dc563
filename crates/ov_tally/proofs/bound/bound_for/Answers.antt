use Rattle.std.proofs.Common.{rules}
use Rattle.ov_tally.proofs.Bounds.{bound_holds}
use Rattle.ov_tally.proofs.bound.bound_for.Goals as goal

pub returns : goal.returns
returns c = bound_holds c.args.times.now c.in_ok-sums.sums.items c.args.ranks.now c.args.kinds c.args.count _ c.requires.kinds c.in_ok-sums.ensures.totals (search rules)
