use Rattle.std.proofs.Common.{◌≡◌, ◌++◌, drop, map}
use Rattle.std.specs.Prelude.{filter}
use Rattle.ov_terms.specs.Finding.{in_version, is_taken}
use Rattle.ov_terms.specs.Standing.{pairs_at}
use Rattle.ov_terms.proofs.table.Table.kept_rows.Given as goal

-- those that were taken, and behind them those of the rows that are left
abbrev pub invariant-loop-place : goal.invariant-loop-place
invariant-loop-place l =
    filter (is_taken l.guard) (map (in_version 0) l.self)
    ≡ pairs_at l.self l.kept.items ++ filter (is_taken l.guard) (map (in_version 0) (drop l.place l.self))
