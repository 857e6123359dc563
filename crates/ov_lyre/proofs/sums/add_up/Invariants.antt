use Rattle.std.specs.List.{slice_index}
use Rattle.ov_graph.specs.Trees.{tree_of}
use Rattle.ov_lyre.proofs.RunDownFacts.{PassesOn}
use Rattle.ov_lyre.proofs.sums.add_up.Given as goal

abbrev pub invariant-loop-at : goal.invariant-loop-at
invariant-loop-at l = PassesOn (tree_of l.nodes) (slice_index l.initial.sums) (slice_index l.sums) l.part l.at

abbrev pub decreases-loop-at : goal.decreases-loop-at
decreases-loop-at l = l.at
