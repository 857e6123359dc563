use Rattle.std.proofs.Common.{◌≡◌, ◌<◌, ◌+◌, ℕ, length, take, get_or}
use Rattle.std.specs.List.{sum_by}
use Rattle.ov_read.specs.Counting.{capped}
use Rattle.ov_read.proofs.lists.counts_after.Given as goal

abbrev pub invariant-loop-version : goal.invariant-loop-version
invariant-loop-version l = record {
  count : length l.counts.items ≡ l.version-index;
  each : (k : ℕ) → k < length l.counts.items → get_or l.counts.items k 0 ≡ capped (sum_by (λ v. v.fresh) (take (k + 1) l.versions));
  records : l.records ≡ capped (sum_by (λ v. v.fresh) (take l.version-index l.versions));
}
