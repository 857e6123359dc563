use Rattle.std.proofs.Common.{◌≡◌, ◌++◌, drop}
use Rattle.std.specs.Prelude.{filter}
use Rattle.ov_tally.specs.Ranks.{is_low, pairs_in}
use Rattle.ov_tally.proofs.first.low_spans.Given as goal

-- those so far, and those that are left
abbrev pub invariant-loop-span : goal.invariant-loop-span
invariant-loop-span l =
    l.kept.items ++ filter (is_low l.bound) (pairs_in l.version l.ranks l.keys (drop l.span-index l.spans)) ≡ l.fn.kept.items ++ filter (is_low l.bound) (pairs_in l.version l.ranks l.keys l.spans)
