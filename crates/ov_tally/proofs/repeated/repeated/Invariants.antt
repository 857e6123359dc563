use Rattle.std.proofs.Common.{◌≡◌, ◌≤◌, ◌-◌, length}
use Rattle.std.specs.List.{All}
use Rattle.ov_tally.proofs.repeated.repeated.Given as goal

abbrev pub invariant-loop-value : goal.invariant-loop-value
invariant-loop-value g l = record {
  count : length l.made.items ≤ l.count;
  all : All (λ item. item ≡ l.value) l.made.items;
}

abbrev pub decreases-loop-value : goal.decreases-loop-value
decreases-loop-value g l = l.count - length l.made.items
