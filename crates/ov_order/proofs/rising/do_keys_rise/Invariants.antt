use Rattle.std.proofs.Common.{◌≡◌, ◌<◌, ◌+◌, ◌-◌, ℕ, true, get_or}
use Rattle.std.specs.Ordering.{is_lt}
use Rattle.ov_value.specs.Rows.{key_cmp}
use Rattle.ov_fetch.specs.Scans.{row_at}
use Rattle.ov_order.specs.Keyed.{keyed_at}
use Rattle.ov_order.proofs.rising.do_keys_rise.Given as goal

-- the last one looked at, and the keys up to it rise
abbrev pub invariant-loop-i : goal.invariant-loop-i
invariant-loop-i l = record {
  last_is : (none : ℕ) → l.last ≡ keyed_at l.schema l.records.records (get_or l.places (l.i - 1) none);
  rise : (k none : ℕ) → k + 1 < l.i → is_lt (key_cmp l.schema (row_at l.records.records (get_or l.places k none)) (row_at l.records.records (get_or l.places (k + 1) none))) ≡ true;
}
