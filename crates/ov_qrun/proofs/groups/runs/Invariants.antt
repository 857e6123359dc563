use Rattle.std.proofs.Common.{◌≡◌, ◌++◌, length, map}
use Rattle.ov_qrun.specs.Keys.{has_same_key}
use Rattle.ov_qrun.specs.Runs.{cut, run_items}
use Rattle.ov_qrun.proofs.groups.runs.Given as goal

-- the runs so far, and behind them those of the spots that are left
abbrev pub invariant-loop-rest : goal.invariant-loop-rest
invariant-loop-rest l =
    map run_items (cut (has_same_key l.table l.cols) l.spots)
    ≡ map (λ run. run.now) l.found.items ++ map run_items (cut (has_same_key l.table l.cols) l.rest)

abbrev pub decreases-loop-rest : goal.decreases-loop-rest
decreases-loop-rest l = length l.rest
