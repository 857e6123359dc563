use Rattle.std.proofs.Common.{◌≡◌, ◌++◌, ◌∷◌, []}
use Rattle.std.specs.Prelude.{filter}
use Rattle.ov_tally.specs.Ranks.{is_low, pairs_in}
use Rattle.ov_tally.proofs.Cutting.{pairs_at}
use Rattle.ov_tally.proofs.first.low_in.Given as goal

-- those so far, and those that are left
abbrev pub invariant-loop-place : goal.invariant-loop-place
invariant-loop-place l =
    l.kept.items ++ filter (is_low l.bound) (pairs_at l.version l.ranks l.keys l.place l.place-end) ≡ l.fn.kept.items ++ filter (is_low l.bound) (pairs_in l.version l.ranks l.keys (l.fn.span ∷ []))
