use Rattle.std.proofs.Common.{length, arith}
use Rattle.ov_graph.specs.Trees.{tree_of, fresh}
use Rattle.ov_lyre.proofs.PartFacts.{part-at, part-long, total-take}
use Rattle.ov_lyre.proofs.sums.add_totals.Goals as goal

pub node_of-node-requires-clause-from_one : goal.node_of-node-requires-clause-from_one
node_of-node-requires-clause-from_one c = (part-at (tree_of c.args.nodes.now) (length c.args.nodes.now) c.args.part.now c.requires.part c.loop-vid.vid-index c.loop-vid-test.true).above

pub node_of-node-requires-clause-is_there : goal.node_of-node-requires-clause-is_there
node_of-node-requires-clause-is_there c = (part-at (tree_of c.args.nodes.now) (length c.args.nodes.now) c.args.part.now c.requires.part c.loop-vid.vid-index c.loop-vid-test.true).within

pub overflow_add-records : goal.overflow_add-records
overflow_add-records c = let long = part-long (tree_of c.args.nodes.now) (length c.args.nodes.now) c.args.part.now c.requires.part in let few = c.requires.sound.few in let so_far = c.loop-vid.invariant.2 in omega arith

pub overflow_add-members : goal.overflow_add-members
overflow_add-members c = let long = part-long (tree_of c.args.nodes.now) (length c.args.nodes.now) c.args.part.now c.requires.part in let few = c.requires.sound.few in let so_far = c.loop-vid.invariant.3 in omega arith

pub loop-vid-preserved : goal.loop-vid-preserved
loop-vid-preserved c =
    let tree = tree_of c.args.nodes.now in
    let part = c.args.part.now in
    let k = c.loop-vid.vid-index in
    let one = total-take (fresh tree) part k c.loop-vid-test.true in
    let two = total-take tree.records part k c.loop-vid-test.true in
    let a = c.loop-vid.invariant.0 in
    let b = c.loop-vid.invariant.1 in
    let d = c.loop-vid.invariant.2 in
    let e = c.loop-vid.invariant.3 in
    let r = c.node_of-node.ensures.records in
    let w = c.node_of-node.ensures.weight in
    (omega arith, omega arith, omega arith, omega arith)

pub overflow_add-result : goal.overflow_add-result
overflow_add-result c = let long = part-long (tree_of c.args.nodes.now) (length c.args.nodes.now) c.args.part.now c.requires.part in let few = c.requires.sound.few in let so_far = c.loop-vid.invariant.2 in omega arith

pub returns-clause-few_records : goal.returns-clause-few_records
returns-clause-few_records c = let long = part-long (tree_of c.args.nodes.now) (length c.args.nodes.now) c.args.part.now c.requires.part in let few = c.requires.sound.few in let so_far = c.loop-vid.invariant.2 in omega arith

pub returns-clause-few_members : goal.returns-clause-few_members
returns-clause-few_members c = let long = part-long (tree_of c.args.nodes.now) (length c.args.nodes.now) c.args.part.now c.requires.part in let few = c.requires.sound.few in let so_far = c.loop-vid.invariant.3 in omega arith
