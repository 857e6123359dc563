use Rattle.std.proofs.Common.{ℕ, false, List, ◌++◌}
use Rattle.ov_member.specs.Walks.{AreTurns, Awaits, edges_left}
use Rattle.ov_member.proofs.walk.made.Given as goal

-- whatever turns are still ahead complete those that were met
abbrev pub invariant-loop-edge : goal.invariant-loop-edge
invariant-loop-edge l = (edges : List ℕ) → Awaits l.walk edges → AreTurns l.fn.rule false l.fn.left false l.fn.right (l.edges.items ++ edges)

abbrev pub decreases-loop-edge : goal.decreases-loop-edge
decreases-loop-edge l = edges_left l.walk
