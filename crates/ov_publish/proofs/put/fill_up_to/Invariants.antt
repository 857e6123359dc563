use Rattle.std.proofs.Common.{◌-◌}
use Rattle.ov_publish.proofs.Filling.{IsFilling}
use Rattle.ov_publish.proofs.put.fill_up_to.Given as goal

abbrev pub invariant-loop-end : goal.invariant-loop-end
invariant-loop-end g l = IsFilling l.at l.end (g.H.Host.state l.fn.host) (g.H.Host.state l.host)

abbrev pub decreases-loop-end : goal.decreases-loop-end
decreases-loop-end g l = l.at - l.end
