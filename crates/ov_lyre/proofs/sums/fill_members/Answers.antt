use Rattle.std.proofs.Common.{length, ◌∙◌, arith}
use Rattle.ov_graph.specs.Trees.{tree_of}
use Rattle.ov_lyre.proofs.PartFacts.{part-at}
use Rattle.ov_lyre.proofs.RunDownFacts.{stands-more}
use Rattle.ov_lyre.proofs.sums.fill_members.Goals as goal

pub node_of-requires-clause-from_one : goal.node_of-requires-clause-from_one
node_of-requires-clause-from_one c = (part-at (tree_of c.args.nodes.now) (length c.args.nodes.now) c.args.part.now c.requires.part c.loop-vid.vid-index c.loop-vid-test.true).above

pub node_of-requires-clause-is_there : goal.node_of-requires-clause-is_there
node_of-requires-clause-is_there c = (part-at (tree_of c.args.nodes.now) (length c.args.nodes.now) c.args.part.now c.requires.part c.loop-vid.vid-index c.loop-vid-test.true).within

pub bounds-members-vid : goal.bounds-members-vid
bounds-members-vid c = let in_tree = (part-at (tree_of c.args.nodes.now) (length c.args.nodes.now) c.args.part.now c.requires.part c.loop-vid.vid-index c.loop-vid-test.true).within in let long = c.requires.members in let same = c.loop-vid.auto.members in omega arith

pub loop-vid-preserved : goal.loop-vid-preserved
loop-vid-preserved c =
    let tree = tree_of c.args.nodes.now in
    let part = c.args.part.now in
    let k = c.loop-vid.vid-index in
    let in_tree = (part-at tree (length c.args.nodes.now) part c.requires.part k c.loop-vid-test.true).within in
    let long = c.requires.members in
    let same = c.loop-vid.auto.members in
    stands-more tree.records part c.loop-vid.members k c.from.result c.loop-vid-test.true c.loop-vid.invariant (c.from.ensures ∙ c.node_of.ensures.records) (omega arith)
