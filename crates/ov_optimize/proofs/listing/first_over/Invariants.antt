use Rattle.std.proofs.Common.{◌≤◌, take}
use Rattle.std.specs.List.{All}
use Rattle.ov_member.specs.Rids.{AreRids}
use Rattle.ov_optimize.proofs.listing.first_over.Given as goal

abbrev pub invariant-loop-at : goal.invariant-loop-at
invariant-loop-at l = record {
  sets : All AreRids (take l.at l.lists);
  within : All (λ rids. All (λ rid. rid ≤ l.last) rids) (take l.at l.lists);
}
