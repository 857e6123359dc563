use Rattle.std.proofs.Common.{◌≡◌, ◌-◌, ◌+◌, drop}
use Rattle.ov_qrun.specs.Keys.{has_same_key}
use Rattle.ov_qrun.specs.Runs.{run_len}
use Rattle.ov_qrun.proofs.groups.first_run.Given as goal

-- the spots before this place have the same values
abbrev pub invariant-loop-at : goal.invariant-loop-at
invariant-loop-at l =
    run_len (has_same_key l.table l.cols) l.spots
    ≡ (l.at - 1) + run_len (has_same_key l.table l.cols) (drop (l.at - 1) l.spots)
