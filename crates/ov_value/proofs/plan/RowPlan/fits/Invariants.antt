use Rattle.std.proofs.Common.{drop}
use Rattle.ov_value.specs.Plans.{Walks}
use Rattle.ov_value.proofs.plan.RowPlan.fits.Given as goal

-- where the rest is as the other gaps say, all of it is as all of them say
abbrev pub invariant-loop-gap : goal.invariant-loop-gap
invariant-loop-gap l = Walks (drop l.gap-index l.self.gaps) l.self.tail l.rest → Walks l.self.gaps l.self.tail l.bytes
