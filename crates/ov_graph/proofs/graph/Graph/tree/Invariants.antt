use Rattle.std.proofs.Common.{◌≡◌, take}
use Rattle.ov_graph.specs.Versions.{reduced}
use Rattle.ov_graph.specs.Entries.{versions_of}
use Rattle.ov_graph.proofs.graph.Graph.tree.Given as goal

abbrev pub invariant-loop-entry : goal.invariant-loop-entry
invariant-loop-entry l = l.nodes.items ≡ reduced (versions_of (take l.entry-index l.entry-items))
