use Rattle.std.proofs.Common.{◌≡◌, ◌+◌, ◌*◌, ℕ, length, take}
use Rattle.std.specs.Prelude.{pos, ◌+ℤ◌}
use Rattle.ov_tally.specs.Counting.{AreWithin, total_to}
use Rattle.ov_tally.specs.Spans.{covers}
use Rattle.ov_tally.proofs.times.mark_spans.Given as goal

abbrev pub invariant-loop-span : goal.invariant-loop-span
invariant-loop-span l = record {
  count : length l.sums.items ≡ length l.fn.sums.items;
  totals : (p : ℕ) → total_to l.sums.items p ≡ total_to l.fn.sums.items p +ℤ pos (covers (take l.span-index l.spans) p);
  within : (n : ℕ) → AreWithin n l.fn.sums.items → AreWithin (n + 2 * l.span-index) l.sums.items;
}
