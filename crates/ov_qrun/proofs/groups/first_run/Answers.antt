use Rattle.ov_qrun.proofs.Cutting.{last-run}
use Rattle.ov_qrun.proofs.groups.first_run.Goals as goal

pub returns : goal.returns
returns c = last-run _ c.args.spots.now c.loop-at.at c.loop-at.auto.at c.loop-at.auto.at-end c.loop-at-test.false c.loop-at.invariant
