use Rattle.std.proofs.Common.{◌≡◌, ◌-◌, drop}
use Rattle.ov_qrun.specs.Keys.{spot_order}
use Rattle.ov_qrun.specs.Runs.{climbs}
use Rattle.ov_qrun.proofs.groups.climb.Given as goal

-- the spots from the one before this place on decide
abbrev pub invariant-loop-at : goal.invariant-loop-at
invariant-loop-at l =
    climbs (spot_order l.table l.cols) l.spots
    ≡ climbs (spot_order l.table l.cols) (drop (l.at - 1) l.spots)
