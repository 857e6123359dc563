use Rattle.std.proofs.Common.{length, arith}
use Rattle.ov_graph.specs.Trees.{tree_of, fresh}
use Rattle.ov_lyre.proofs.PartFacts.{part-at}
use Rattle.ov_lyre.proofs.RunDownFacts.{stands-more}
use Rattle.ov_lyre.proofs.sums.fill.Goals as goal

pub node_of-node-requires-clause-from_one : goal.node_of-node-requires-clause-from_one
node_of-node-requires-clause-from_one c = (part-at (tree_of c.args.nodes.now) (length c.args.nodes.now) c.args.part.now c.requires.part c.loop-vid.vid-index c.loop-vid-test.true).above

pub node_of-node-requires-clause-is_there : goal.node_of-node-requires-clause-is_there
node_of-node-requires-clause-is_there c = (part-at (tree_of c.args.nodes.now) (length c.args.nodes.now) c.args.part.now c.requires.part c.loop-vid.vid-index c.loop-vid-test.true).within

pub bounds-counts-vid : goal.bounds-counts-vid
bounds-counts-vid c = let in_tree = (part-at (tree_of c.args.nodes.now) (length c.args.nodes.now) c.args.part.now c.requires.part c.loop-vid.vid-index c.loop-vid-test.true).within in let long = c.requires.counts in let same = c.loop-vid.auto.counts in omega arith

pub bounds-sums-vid : goal.bounds-sums-vid
bounds-sums-vid c = let in_tree = (part-at (tree_of c.args.nodes.now) (length c.args.nodes.now) c.args.part.now c.requires.part c.loop-vid.vid-index c.loop-vid-test.true).within in let long = c.requires.sums in let same = c.loop-vid.auto.sums in omega arith

pub loop-vid-preserved : goal.loop-vid-preserved
loop-vid-preserved c =
    let tree = tree_of c.args.nodes.now in
    let part = c.args.part.now in
    let k = c.loop-vid.vid-index in
    let in_tree = (part-at tree (length c.args.nodes.now) part c.requires.part k c.loop-vid-test.true).within in
    let counts_long = c.requires.counts in
    let counts_same = c.loop-vid.auto.counts in
    let sums_long = c.requires.sums in
    let sums_same = c.loop-vid.auto.sums in
    let r = c.node_of-node.ensures.records in
    let w = c.node_of-node.ensures.weight in (
      stands-more (λ _. 1) part c.loop-vid.counts k 1 c.loop-vid-test.true c.loop-vid.invariant.0 (omega arith) (omega arith),
      stands-more (fresh tree) part c.loop-vid.sums k c.from.result c.loop-vid-test.true c.loop-vid.invariant.1 (omega (arith, c.from.ensures, r, w)) (omega arith),
    )
