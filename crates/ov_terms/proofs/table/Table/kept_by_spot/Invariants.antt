use Rattle.std.proofs.Common.{◌≡◌, ◌++◌, drop}
use Rattle.std.specs.Prelude.{filter}
use Rattle.ov_terms.specs.Finding.{is_taken}
use Rattle.ov_terms.specs.Standing.{pairs_at, pairs_among}
use Rattle.ov_terms.proofs.table.Table.kept_by_spot.Given as goal

-- those that were taken, and behind them those of the versions that are left
abbrev pub invariant-loop-i : goal.invariant-loop-i
invariant-loop-i l =
    filter (is_taken l.guard) (pairs_among l.self l.vids l.picks)
    ≡ pairs_at l.self l.kept.items ++ filter (is_taken l.guard) (pairs_among l.self (drop l.i l.vids) (drop l.i l.picks))
