use Rattle.std.proofs.Common.{◌≤◌, ℕ, List, length}
use Rattle.ov_graph.specs.Trees.{tree_of}
use Rattle.ov_lyre.specs.Sums.{Stands}
use Rattle.ov_lyre.specs.Sides.{AreInside, number_of}
use Rattle.ov_lyre.proofs.SidesFacts.{IsInherited}
use Rattle.ov_lyre.proofs.sides.inherit.Given as goal

abbrev pub invariant-loop-at : goal.invariant-loop-at
invariant-loop-at l = ((cuts : List ℕ) → AreInside (tree_of l.nodes) l.part cuts → Stands (number_of cuts) l.part l.initial.numbers → IsInherited (tree_of l.nodes) cuts l.part l.at l.numbers) × (1 ≤ l.at) × (l.at ≤ length l.part)
