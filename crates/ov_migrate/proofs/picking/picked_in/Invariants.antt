use Rattle.std.proofs.Common.{ℕ, List, length}
use Rattle.ov_member.specs.Lists.{Spells}
use Rattle.ov_migrate.proofs.Walking.{IsLeft}
use Rattle.ov_migrate.proofs.picking.picked_in.Given as goal

abbrev pub invariant-loop-left : goal.invariant-loop-left
invariant-loop-left l = (rids : List ℕ) → Spells l.bytes rids → IsLeft rids l.rest l.found.items l.from l.most l.passed l.left

abbrev pub decreases-loop-left : goal.decreases-loop-left
decreases-loop-left l = length l.rest
