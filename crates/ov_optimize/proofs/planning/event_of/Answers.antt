use Rattle.std.proofs.Common.{sym, subst, arith}
use Rattle.ov_event.specs.declared.event.Event.TheVariants as says
use Rattle.ov_event.specs.Spelling.{IsEvent}
use Rattle.ov_optimize.proofs.Making.{plan_spelled}
use Rattle.ov_optimize.proofs.planning.event_of.Goals as goal

pub returns-clause-event : goal.returns-clause-event
returns-clause-event c =
    subst (λ us. IsEvent (says.Plan c.args.cvd c.args.p c.args.q us)) (sym c.new.ensures)
    (plan_spelled c.args.cvd c.args.p c.args.q c.args.targets.items (omega (arith, c.ranges.cvd.fits)) (omega (arith, c.ranges.p.fits)) (omega (arith, c.ranges.q.fits)) c.requires)
