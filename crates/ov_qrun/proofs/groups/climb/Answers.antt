use Rattle.ov_qrun.specs.Keys.{spot_order}
use Rattle.ov_qrun.proofs.Climbing.{climbs-all}
use Rattle.ov_qrun.proofs.groups.climb.Goals as goal

pub returns : goal.returns
returns c = climbs-all (spot_order c.args.table.now c.args.cols.now) c.args.spots.now c.loop-at.at c.loop-at.auto.at c.loop-at-test.false c.loop-at.invariant
