use Rattle.std.proofs.lemmas.Bool.{le-leb, leb-true}
use Rattle.std.proofs.Common.{arith}
use Rattle.ov_optimize.proofs.RidSets.{up_to}
use Rattle.ov_optimize.proofs.listing.is_within.Goals as goal

pub returns-in-Some-clause-within : goal.returns-in-Some-clause-within
returns-in-Some-clause-within c = (
  λ le k d lt. omega (arith, c.in-Some.ensures.above k d lt, leb-true c.in-Some.rid c.args.last le),
  λ all. le-leb c.in-Some.rid c.args.last (up_to c.args.rids.now c.in-Some.rid c.args.last all c.in-Some.ensures.there),
)
