use Rattle.std.proofs.Common.{◌≡◌, ◌+◌, ◌-◌, length, get_or, arith}
use Rattle.std.specs.List.{slice_index}
use Rattle.ov_graph.specs.Trees.{tree_of}
use Rattle.ov_lyre.proofs.PartFacts.{part-at}
use Rattle.ov_lyre.proofs.NodeFacts.{sound-tree}
use Rattle.ov_lyre.proofs.RunDownFacts.{PassesOn, passes-more, passes-fit, passes-all, set-passed}
use Rattle.ov_lyre.proofs.sums.add_up.Goals as goal

pub node_of-parent-requires-clause-from_one : goal.node_of-parent-requires-clause-from_one
node_of-parent-requires-clause-from_one c = let w = c.loop-at.invariant.within in (part-at (tree_of c.args.nodes.now) (length c.args.nodes.now) c.args.part.now c.requires.part (c.loop-at.at - 1) (omega arith)).above

pub node_of-parent-requires-clause-is_there : goal.node_of-parent-requires-clause-is_there
node_of-parent-requires-clause-is_there c = let w = c.loop-at.invariant.within in (part-at (tree_of c.args.nodes.now) (length c.args.nodes.now) c.args.part.now c.requires.part (c.loop-at.at - 1) (omega arith)).within

pub bounds-sums-vid : goal.bounds-sums-vid
bounds-sums-vid c = let w = c.loop-at.invariant.within in let in_tree = (part-at (tree_of c.args.nodes.now) (length c.args.nodes.now) c.args.part.now c.requires.part (c.loop-at.at - 1) (omega arith)).within in let long = c.requires.sums in let same = c.loop-at.auto.sums in omega arith

pub overflow_add-sums : goal.overflow_add-sums
overflow_add-sums c =
    let nodes = c.args.nodes.now in
    let tree = tree_of nodes in
    let at = c.loop-at.at - 1 in
    let back : at + 1 ≡ c.loop-at.at = omega arith in
    let passes : PassesOn tree (slice_index c.args.sums.now) (slice_index c.loop-at.sums) c.args.part.now (at + 1) = rw back c.loop-at.invariant in
    let fit = passes-fit tree (sound-tree nodes c.requires.sound) (length nodes) (slice_index c.args.sums.now) (slice_index c.loop-at.sums) c.args.part.now c.requires.part at (omega arith) passes in
    let small = c.requires.small in
    rw c.node_of-parent.ensures.parent (omega (arith, fit, small))

pub loop-at-preserved : goal.loop-at-preserved
loop-at-preserved c =
    let nodes = c.args.nodes.now in
    let tree = tree_of nodes in
    let sound = sound-tree nodes c.requires.sound in
    let part = c.args.part.now in
    let at = c.loop-at.at - 1 in
    let w = c.loop-at.invariant.within in
    let back : at + 1 ≡ c.loop-at.at = omega arith in
    let passes : PassesOn tree (slice_index c.args.sums.now) (slice_index c.loop-at.sums) part (at + 1) = rw back c.loop-at.invariant in
    let y = get_or part at 0 in
    let lies = part-at tree (length nodes) part c.requires.part at (omega arith) in
    let within = lies.within in
    let above = lies.above in
    let low = sound.lower y in
    let long = c.requires.sums in
    let same = c.loop-at.auto.sums in
    passes-more tree sound (length nodes) (slice_index c.args.sums.now) (slice_index c.loop-at.sums) part c.requires.part at (omega arith) passes _ (set-passed c.loop-at.sums (tree.parent y) c.node_of-parent.result.parent y c.node_of-parent.ensures.parent (omega arith))

pub returns : goal.returns
returns c =
    let nodes = c.args.nodes.now in
    passes-all (tree_of nodes) (sound-tree nodes c.requires.sound) (slice_index c.args.sums.now) (slice_index c.loop-at.sums) c.args.part.now c.loop-at.at c.loop-at-test.false c.loop-at.invariant
