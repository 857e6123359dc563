use Rattle.std.proofs.Common.{◌+◌, ◌≤◌}
use Rattle.ov_graph.specs.Entries.{versions_of}
use Rattle.ov_graph.proofs.LineageLemmas.{GoesUp}
use Rattle.ov_graph.proofs.lineage.ancestor_marks.Given as goal

abbrev pub invariant-loop-at : goal.invariant-loop-at
invariant-loop-at l = GoesUp (versions_of l.entries) (l.own + 1) l.at l.marks.items × (l.at ≤ l.own + 1)

abbrev pub decreases-loop-at : goal.decreases-loop-at
decreases-loop-at l = l.at
