use Rattle.std.proofs.Common.{◌≡◌, ◌*◌, ◌^◌, List, drop}
use Rattle.std.specs.Prelude.{ℤ, pos, ◌+ℤ◌, ◌≤ℤ◌}
use Rattle.ov_tally.specs.Running.{running, sum_at}
use Rattle.ov_tally.specs.Spans.{places_in}
use Rattle.ov_tally.proofs.sums.sum_over.Given as goal

-- the sum so far, and that over the ranges that are left
abbrev pub invariant-loop-span : goal.invariant-loop-span
invariant-loop-span l = record {
  told : (values : List ℤ) → l.totals ≡ running (pos 0) values → l.sum +ℤ sum_at values (places_in (drop l.span-index l.spans)) ≡ sum_at values (places_in l.spans);
  low : pos 0 ≤ℤ (l.sum +ℤ pos (l.span-index * 2 ^ 95));
  high : l.sum ≤ℤ pos (l.span-index * 2 ^ 95);
}
