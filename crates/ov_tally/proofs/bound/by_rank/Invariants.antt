use Rattle.std.proofs.Common.{◌≡◌, ◌+◌, ◌*◌, ◌^◌, ℕ, length}
use Rattle.ov_tally.specs.Counting.{AreWithin, total_to}
use Rattle.ov_tally.specs.Ranks.{low_times}
use Rattle.ov_tally.proofs.bound.by_rank.Given as goal

abbrev pub invariant-loop-place : goal.invariant-loop-place
invariant-loop-place l = record {
  count : length l.sums.items ≡ l.kinds;
  totals : (p : ℕ) → total_to l.sums.items p ≡ low_times l.times l.ranks (p + 1) l.place;
  within : AreWithin (l.place * 2 ^ 63) l.sums.items;
}
