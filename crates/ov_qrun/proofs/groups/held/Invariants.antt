use Rattle.std.proofs.Common.{◌≡◌, ◌++◌, map, drop}
use Rattle.std.specs.Prelude.{filter}
use Rattle.ov_terms.specs.Finding.{found_holds}
use Rattle.ov_terms.specs.Standing.{pairs_at}
use Rattle.ov_qrun.proofs.groups.held.Given as goal

-- those that were taken, and behind them those of the groups that are left
abbrev pub invariant-loop-group : goal.invariant-loop-group
invariant-loop-group l =
    filter (λ group. found_holds l.having (pairs_at l.table group)) (map (λ group. group.now) l.groups)
    ≡ map (λ group. group.now) l.found.items
    ++ filter (λ group. found_holds l.having (pairs_at l.table group)) (map (λ group. group.now) (drop l.group-index l.groups))
