use Rattle.std.proofs.Common.{◌≡◌, ◌++◌, drop}
use Rattle.std.specs.Prelude.{filter}
use Rattle.ov_terms.specs.Finding.{is_taken}
use Rattle.ov_terms.specs.Standing.{pairs_at, spots_in}
use Rattle.ov_terms.proofs.table.Table.keep_by_spot.Given as goal

-- those that were taken, and behind them those of the places that are left
abbrev pub invariant-loop-place : goal.invariant-loop-place
invariant-loop-place l =
    pairs_at l.self l.fn.kept.items ++ filter (is_taken l.guard) (pairs_at l.self (spots_in l.vid l.places))
    ≡ pairs_at l.self l.kept.items ++ filter (is_taken l.guard) (pairs_at l.self (spots_in l.vid (drop l.place-index l.places)))
