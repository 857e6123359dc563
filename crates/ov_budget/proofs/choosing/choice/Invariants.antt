use Rattle.std.proofs.Common.{◌≡◌, ◌≤◌, ◌+◌, drop, length}
use Rattle.ov_budget.specs.Choices.{best_from}
use Rattle.ov_budget.proofs.choosing.choice.Given as goal

abbrev pub invariant-loop-at : goal.invariant-loop-at
invariant-loop-at l = record {
  within : l.at ≤ length l.table;
  best_is : l.best ≡ best_from l.budget (l.at + 1) (drop l.at l.table);
}

abbrev pub decreases-loop-at : goal.decreases-loop-at
decreases-loop-at l = l.at
