use Rattle.std.proofs.Common.{◌≡◌, ◌*◌, ◌^◌, ℕ, length, take}
use Rattle.std.specs.Prelude.{pos}
use Rattle.ov_tally.specs.Counting.{AreWithin, total_to}
use Rattle.ov_tally.specs.Spans.{times}
use Rattle.ov_tally.proofs.times.marks_of.Given as goal

abbrev pub invariant-loop-spans : goal.invariant-loop-spans
invariant-loop-spans l = record {
  count : length l.marks.items ≡ l.count;
  totals : (p : ℕ) → total_to l.marks.items p ≡ pos (times (take l.spans-index l.versions) p);
  within : AreWithin (l.spans-index * 2 ^ 31) l.marks.items;
}
