use Rattle.std.proofs.Common.{◌≡◌, ◌≤◌, ◌+◌, All}
use Rattle.std.specs.Prelude.{reverse, IfSome}
use Rattle.std.specs.Option.{option_map}
use Rattle.ov_budget.specs.Choices.{best_from}
use Rattle.ov_budget.specs.Offers.{IsOffer, numbered}
use Rattle.ov_budget.specs.Sizes.{IsSized}
use Rattle.ov_budget.proofs.Offering.{lines_behind}
use Rattle.ov_budget.proofs.offers.table_within.Given as goal

abbrev pub invariant-loop-p : goal.invariant-loop-p
invariant-loop-p l = record {
  few : l.p ≤ 100;
  lines_are : reverse l.lines.items ≡ lines_behind l.tree.nodes.items l.lists l.p;
  sizes : All (IsSized l.lists) l.sized.items;
  best_is : option_map numbered l.best ≡ best_from l.budget (l.p + 1) (lines_behind l.tree.nodes.items l.lists l.p);
  split : IfSome l.best (IsOffer l.tree.nodes.items);
}

abbrev pub decreases-loop-p : goal.decreases-loop-p
decreases-loop-p l = l.p
