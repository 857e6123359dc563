use Rattle.std.proofs.Common.{◌≡◌, ◌++◌, ◌*◌, ◌^◌, drop}
use Rattle.std.specs.Prelude.{pos, ◌+ℤ◌, ◌≤ℤ◌}
use Rattle.std.specs.List.{All}
use Rattle.ov_tally.specs.Running.{IsSmall, later, running}
use Rattle.ov_tally.proofs.sums.totals.Given as goal

-- the totals so far, and those that are left
abbrev pub invariant-loop-value : goal.invariant-loop-value
invariant-loop-value l = record {
  told : l.totals.items ++ later l.sum (drop l.value-index l.values) ≡ running (pos 0) l.values;
  low : pos 0 ≤ℤ (l.sum +ℤ pos (l.value-index * 2 ^ 63));
  high : l.sum ≤ℤ pos (l.value-index * 2 ^ 63);
  small : All IsSmall l.totals.items;
}
