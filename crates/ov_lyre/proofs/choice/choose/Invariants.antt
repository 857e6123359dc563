use Rattle.std.proofs.Common.{◌≤◌, drop, length}
use Rattle.ov_graph.specs.Trees.{tree_of}
use Rattle.ov_graph.specs.Splits.{chosen_among}
use Rattle.ov_lyre.specs.Candidates.{IsBest}
use Rattle.ov_lyre.proofs.choice.choose.Given as goal

abbrev pub invariant-loop-at : goal.invariant-loop-at
invariant-loop-at l = IsBest (tree_of l.nodes) l.part l.found (chosen_among (tree_of l.nodes) l.threshold.p l.threshold.q l.part (drop l.at l.part)) × (l.at ≤ length l.part) × (1 ≤ l.at)

abbrev pub decreases-loop-at : goal.decreases-loop-at
decreases-loop-at l = l.at
