use Rattle.std.proofs.Common.{◌≡◌, ◌≤◌, ◌*◌, ◌^◌}
use Rattle.ov_graph.specs.Trees.{tree_of, total, vids, fresh}
use Rattle.ov_graph.proofs.nodes.Tree.records.Given as goal

abbrev pub invariant-loop-node : goal.invariant-loop-node
invariant-loop-node l = (l.sum ≡ total (fresh (tree_of l.self.nodes.items)) (vids l.node-index)) × (l.sum ≤ l.node-index * 2 ^ 32)
