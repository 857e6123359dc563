use Rattle.ov_graph.specs.Entries.{versions_of}
use Rattle.ov_graph.proofs.LineageLemmas.{GoesDown}
use Rattle.ov_graph.proofs.lineage.descendant_marks.Given as goal

abbrev pub invariant-loop-at : goal.invariant-loop-at
invariant-loop-at l = GoesDown (versions_of l.entries) l.own l.at l.marks.items
