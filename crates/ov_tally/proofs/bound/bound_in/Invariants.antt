use Rattle.std.proofs.Common.{◌≡◌, ◌*◌, ◌^◌, take}
use Rattle.std.specs.Prelude.{pos, ◌+ℤ◌, ◌≤ℤ◌}
use Rattle.ov_tally.specs.Counting.{total}
use Rattle.ov_tally.proofs.bound.bound_in.Given as goal

abbrev pub invariant-loop-rank : goal.invariant-loop-rank
invariant-loop-rank l = record {
  sum : l.sum ≡ total (take l.rank l.sums);
  low : pos 0 ≤ℤ (l.sum +ℤ pos (l.rank * 2 ^ 94));
  high : l.sum ≤ℤ pos (l.rank * 2 ^ 94);
}
