use Rattle.std.proofs.Common.{refl, length, ◌∙◌, arith}
use Rattle.ov_graph.specs.Trees.{tree_of}
use Rattle.ov_lyre.proofs.PartFacts.{lies, edge-has}
use Rattle.ov_lyre.proofs.NodeFacts.{sound-tree}
use Rattle.ov_lyre.proofs.CutFacts.{sides}
use Rattle.ov_lyre.proofs.ChoiceFacts.{is-candidate}
use Rattle.ov_lyre.proofs.choice.weigh.Goals as goal

pub node_of-requires-clause-from_one : goal.node_of-requires-clause-from_one
node_of-requires-clause-from_one c = (lies 0 (length c.args.nodes.now) c.args.part.now c.args.child c.requires.part.ascends (edge-has c.args.part.now c.args.child c.requires.child)).above

pub node_of-requires-clause-is_there : goal.node_of-requires-clause-is_there
node_of-requires-clause-is_there c = (lies 0 (length c.args.nodes.now) c.args.part.now c.args.child c.requires.part.ascends (edge-has c.args.part.now c.args.child c.requires.child)).within

pub overflow_sub-versions_above : goal.overflow_sub-versions_above
overflow_sub-versions_above c =
    let long = (sides (tree_of c.args.nodes.now) (sound-tree c.args.nodes.now c.requires.sound) (length c.args.nodes.now) c.args.part.now c.args.child c.requires.part c.requires.child).lengths in
    let under = c.requires.versions_under in
    omega arith

pub overflow_sub-records_above : goal.overflow_sub-records_above
overflow_sub-records_above c =
    let two = sides (tree_of c.args.nodes.now) (sound-tree c.args.nodes.now c.requires.sound) (length c.args.nodes.now) c.args.part.now c.args.child c.requires.part c.requires.child in
    let sum = two.record_sum in
    let low = two.lower_records in
    let under = c.requires.fresh_under in
    let whole = c.requires.records in
    omega arith

pub overflow_add-fresh_under : goal.overflow_add-fresh_under
overflow_add-fresh_under c =
    let two = sides (tree_of c.args.nodes.now) (sound-tree c.args.nodes.now c.requires.sound) (length c.args.nodes.now) c.args.part.now c.args.child c.requires.part c.requires.child in
    let sum = two.record_sum in
    let low = two.lower_records in
    let under = c.requires.fresh_under in
    let whole = c.requires.records in
    let small = c.requires.small in
    let weight = c.from-weight.ensures in
    omega arith

pub returns-clause-candidate : goal.returns-clause-candidate
returns-clause-candidate c =
    let weight = c.from-weight.ensures ∙ c.node_of.ensures.weight in
    is-candidate (tree_of c.args.nodes.now) (sound-tree c.args.nodes.now c.requires.sound) (length c.args.nodes.now) c.args.part.now _ c.args.versions_under c.args.fresh_under c.requires.part c.requires.child c.requires.versions_under c.requires.fresh_under
    c.abs_diff.ensures
    (c.abs_diff-2.ensures ∙ rw (weight, c.requires.records) refl)
