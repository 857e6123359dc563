use Rattle.std.proofs.Common.{◌≡◌, ℕ, ◌+◌, ◌≤◌, false, List, length}
use Rattle.ov_member.specs.Edges.{rids_between}
use Rattle.ov_member.specs.Walks.{AreTurns, Awaits, IsAbove, edges_left}
use Rattle.ov_member.proofs.walk.count_made.Given as goal

-- whatever turns are still ahead, those that were met complete them, and the rids between these are counted
abbrev pub invariant-loop-first : goal.invariant-loop-first
invariant-loop-first l = ((edges : List ℕ) → Awaits l.walk edges → (whole : List ℕ) × AreTurns l.fn.rule false l.fn.left false l.fn.right whole × (length (rids_between whole) ≡ l.count + length (rids_between edges))) × ((low : ℕ) × (l.count ≤ low) × IsAbove low l.walk)

abbrev pub decreases-loop-first : goal.decreases-loop-first
decreases-loop-first l = edges_left l.walk
