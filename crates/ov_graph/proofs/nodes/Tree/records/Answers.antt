use Rattle.std.proofs.Common.{◌<◌, length, ap, arith}
use Rattle.ov_graph.specs.declared.nodes.Node.{Node}
use Rattle.ov_graph.specs.Trees.{fresh, tree_of}
use Rattle.ov_graph.proofs.TreeLemmas.{total-more, node_at-next}
use Rattle.ov_graph.proofs.nodes.Tree.records.Goals as goal

pub loop-node-preserved : goal.loop-node-preserved
loop-node-preserved c =
    let nodes = c.args.self.now.nodes.items in
    let k = c.loop-node.node-index in
    let lt : k < length nodes = rw c.deref-node-items.ensures.value at c.loop-node-test.true in
    let node = node_at-next nodes k lt in
    let read = rw c.deref-node-items.ensures.value at c.from-sum.ensures in
    let so_far = c.loop-node.invariant.0 in
    let bound = c.loop-node.invariant.1 in
    let more = total-more (fresh (tree_of nodes)) k in
    let records = ap (λ (n : Node). n.records) node in
    let weight = ap (λ (n : Node). n.weight) node in
    (omega arith, omega arith)
