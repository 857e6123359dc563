use Rattle.std.proofs.Common.{◌≡◌, ◌<◌, ℕ, length, take}
use Rattle.std.specs.Prelude.{pos, slice_index_or}
use Rattle.ov_tally.specs.Counting.{total, total_to}
use Rattle.ov_tally.proofs.times.summed.Given as goal

abbrev pub invariant-loop-mark : goal.invariant-loop-mark
invariant-loop-mark l = record {
  sum : l.sum ≡ total (take l.mark-index l.marks);
  count : length l.made.items ≡ l.mark-index;
  each : (p : ℕ) → p < l.mark-index → slice_index_or l.made.items p (pos 0) ≡ total_to l.marks p;
}
