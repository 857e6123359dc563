use Rattle.std.proofs.Common.{sym, subst, arith}
use Rattle.ov_event.specs.Fields.{IsExtent}
use Rattle.ov_copies.proofs.Spelling.{copy_spelled, extent_fits}
use Rattle.ov_copies.proofs.copying.copy_event.Goals as goal

pub returns-clause-event : goal.returns-clause-event
returns-clause-event c =
    copy_spelled c.args.cvd c.args.count c.unplaced.result (omega (arith, c.ranges.cvd.fits)) (omega (arith, c.ranges.count.fits))
    (subst IsExtent (sym c.unplaced.ensures) (extent_fits c.args.segment.now c.requires))
