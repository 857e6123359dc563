use Rattle.std.proofs.Common.{◌≡◌, ◌≤◌, ◌*◌, ◌^◌}
use Rattle.ov_graph.specs.Trees.{tree_of, total, vids}
use Rattle.ov_graph.proofs.nodes.Tree.members.Given as goal

abbrev pub invariant-loop-node : goal.invariant-loop-node
invariant-loop-node l = (l.sum ≡ total (tree_of l.self.nodes.items).records (vids l.node-index)) × (l.sum ≤ l.node-index * 2 ^ 32)
