use Rattle.std.proofs.Common.{length, refl, ◌∙◌, inl, inr, arith}
use Rattle.ov_graph.specs.Trees.{tree_of}
use Rattle.ov_graph.specs.Splits.{lower}
use Rattle.ov_lyre.proofs.PartFacts.{lies, edge-has, total-ones}
use Rattle.ov_lyre.proofs.NodeFacts.{sound-tree}
use Rattle.ov_lyre.proofs.CutFacts.{sides}
use Rattle.ov_lyre.proofs.RecordFacts.{within-parents, weight-within}
use Rattle.ov_lyre.proofs.peeling.key_of.Goals as goal

pub node_of-requires-clause-from_one : goal.node_of-requires-clause-from_one
node_of-requires-clause-from_one c = (lies 0 (length c.args.summed.now.nodes.now) c.args.summed.now.part.now c.args.child c.requires.summed.is.ascends (edge-has c.args.summed.now.part.now c.args.child c.requires.child)).above

pub node_of-requires-clause-is_there : goal.node_of-requires-clause-is_there
node_of-requires-clause-is_there c = (lies 0 (length c.args.summed.now.nodes.now) c.args.summed.now.part.now c.args.child c.requires.summed.is.ascends (edge-has c.args.summed.now.part.now c.args.child c.requires.child)).within

pub overflow_sub-summed : goal.overflow_sub-summed
overflow_sub-summed c =
    let long = (sides (tree_of c.args.summed.now.nodes.now) (sound-tree c.args.summed.now.nodes.now c.requires.summed.sound) (length c.args.summed.now.nodes.now) c.args.summed.now.part.now c.args.child c.requires.summed.is c.requires.child).lengths in
    let under = c.requires.summed.counts c.args.child (edge-has c.args.summed.now.part.now c.args.child c.requires.child) ∙ total-ones (lower (tree_of c.args.summed.now.nodes.now) c.args.child c.args.summed.now.part.now) in
    omega arith

pub overflow_mul-balance : goal.overflow_mul-balance
overflow_mul-balance c =
    let two = sides (tree_of c.args.summed.now.nodes.now) (sound-tree c.args.summed.now.nodes.now c.requires.summed.sound) (length c.args.summed.now.nodes.now) c.args.summed.now.part.now c.args.child c.requires.summed.is c.requires.child in
    let within = weight-within (tree_of c.args.summed.now.nodes.now) (sound-tree c.args.summed.now.nodes.now c.requires.summed.sound) (length c.args.summed.now.nodes.now) (within-parents c.args.summed.now.nodes.now c.requires.summed.sound) c.args.summed.now.part.now c.args.child c.requires.summed.is c.requires.child in
    let sum = two.record_sum in
    let low = two.lower_records in
    let under = c.requires.summed.fresh_is c.args.child (edge-has c.args.summed.now.part.now c.args.child c.requires.child) in
    let whole = c.requires.summed.records_is in
    let small = c.requires.summed.few_records in
    omega arith

pub overflow_add-balance : goal.overflow_add-balance
overflow_add-balance c =
    let two = sides (tree_of c.args.summed.now.nodes.now) (sound-tree c.args.summed.now.nodes.now c.requires.summed.sound) (length c.args.summed.now.nodes.now) c.args.summed.now.part.now c.args.child c.requires.summed.is c.requires.child in
    let within = weight-within (tree_of c.args.summed.now.nodes.now) (sound-tree c.args.summed.now.nodes.now c.requires.summed.sound) (length c.args.summed.now.nodes.now) (within-parents c.args.summed.now.nodes.now c.requires.summed.sound) c.args.summed.now.part.now c.args.child c.requires.summed.is c.requires.child in
    let sum = two.record_sum in
    let low = two.lower_records in
    let under = c.requires.summed.fresh_is c.args.child (edge-has c.args.summed.now.part.now c.args.child c.requires.child) in
    let whole = c.requires.summed.records_is in
    let small = c.requires.summed.few_records in
    let weight = c.from-weight.ensures in
    let node = c.node_of.ensures.weight in
    omega arith

pub overflow_sub-balance : goal.overflow_sub-balance
overflow_sub-balance c =
    let two = sides (tree_of c.args.summed.now.nodes.now) (sound-tree c.args.summed.now.nodes.now c.requires.summed.sound) (length c.args.summed.now.nodes.now) c.args.summed.now.part.now c.args.child c.requires.summed.is c.requires.child in
    let sum = two.record_sum in
    let low = two.lower_records in
    let under = c.requires.summed.fresh_is c.args.child (edge-has c.args.summed.now.part.now c.args.child c.requires.child) in
    let whole = c.requires.summed.records_is in
    omega arith

pub overflow_sub-balance-2 : goal.overflow_sub-balance-2
overflow_sub-balance-2 c =
    let two = sides (tree_of c.args.summed.now.nodes.now) (sound-tree c.args.summed.now.nodes.now c.requires.summed.sound) (length c.args.summed.now.nodes.now) c.args.summed.now.part.now c.args.child c.requires.summed.is c.requires.child in
    let within = weight-within (tree_of c.args.summed.now.nodes.now) (sound-tree c.args.summed.now.nodes.now c.requires.summed.sound) (length c.args.summed.now.nodes.now) (within-parents c.args.summed.now.nodes.now c.requires.summed.sound) c.args.summed.now.part.now c.args.child c.requires.summed.is c.requires.child in
    let sum = two.record_sum in
    let low = two.lower_records in
    let under = c.requires.summed.fresh_is c.args.child (edge-has c.args.summed.now.part.now c.args.child c.requires.child) in
    let whole = c.requires.summed.records_is in
    let weight = c.from-weight.ensures in
    let node = c.node_of.ensures.weight in
    omega arith

pub returns-then-summed-versions_under-clause-none : goal.returns-then-summed-versions_under-clause-none
returns-then-summed-versions_under-clause-none c none =
    let long = (sides (tree_of c.args.summed.now.nodes.now) (sound-tree c.args.summed.now.nodes.now c.requires.summed.sound) (length c.args.summed.now.nodes.now) c.args.summed.now.part.now c.args.child c.requires.summed.is c.requires.child).lengths in
    let under = c.requires.summed.counts c.args.child (edge-has c.args.summed.now.part.now c.args.child c.requires.child) ∙ total-ones (lower (tree_of c.args.summed.now.nodes.now) c.args.child c.args.summed.now.part.now) in
    let isnt = c.if-versions_under-few.false in
    let other = c.if-summed-versions_under.true in
    elim c.requires.few [ inl le ↦ inl (omega arith) | inr le ↦ inr (omega arith) ]

pub returns-clause-keyed : goal.returns-clause-keyed
returns-clause-keyed c =
    let two = sides (tree_of c.args.summed.now.nodes.now) (sound-tree c.args.summed.now.nodes.now c.requires.summed.sound) (length c.args.summed.now.nodes.now) c.args.summed.now.part.now c.args.child c.requires.summed.is c.requires.child in
    let within = weight-within (tree_of c.args.summed.now.nodes.now) (sound-tree c.args.summed.now.nodes.now c.requires.summed.sound) (length c.args.summed.now.nodes.now) (within-parents c.args.summed.now.nodes.now c.requires.summed.sound) c.args.summed.now.part.now c.args.child c.requires.summed.is c.requires.child in
    let long = two.lengths in
    let sum = two.record_sum in
    let low = two.lower_records in
    let under = c.requires.summed.counts c.args.child (edge-has c.args.summed.now.part.now c.args.child c.requires.child) ∙ total-ones (lower (tree_of c.args.summed.now.nodes.now) c.args.child c.args.summed.now.part.now) in
    let fresh_is = c.requires.summed.fresh_is c.args.child (edge-has c.args.summed.now.part.now c.args.child c.requires.child) in
    let whole = c.requires.summed.records_is in
    let weight = c.from-weight.ensures in
    let node = c.node_of.ensures.weight in
    let isnt = c.if-versions_under-few.false in
    let is = c.if-summed-versions_under.false in
    record {
      inside = c.requires.child;
      side = inr (record { isnt_light = λ e. isnt (under ∙ e); count = omega arith; balance = omega arith });
    }

pub bounds-summed-child : goal.bounds-summed-child
bounds-summed-child c =
    let within = (lies 0 (length c.args.summed.now.nodes.now) c.args.summed.now.part.now c.args.child c.requires.summed.is.ascends (edge-has c.args.summed.now.part.now c.args.child c.requires.child)).within in
    let long = c.requires.summed.counts_long in
    omega arith

pub bounds-summed-child-2 : goal.bounds-summed-child-2
bounds-summed-child-2 c =
    let within = (lies 0 (length c.args.summed.now.nodes.now) c.args.summed.now.part.now c.args.child c.requires.summed.is.ascends (edge-has c.args.summed.now.part.now c.args.child c.requires.child)).within in
    let long = c.requires.summed.fresh_long in
    omega arith

pub returns-then-versions_under-few-clause-keyed : goal.returns-then-versions_under-few-clause-keyed
returns-then-versions_under-few-clause-keyed c =
    let under = c.requires.summed.counts c.args.child (edge-has c.args.summed.now.part.now c.args.child c.requires.child) ∙ total-ones (lower (tree_of c.args.summed.now.nodes.now) c.args.child c.args.summed.now.part.now) in
    let fresh_is = c.requires.summed.fresh_is c.args.child (edge-has c.args.summed.now.part.now c.args.child c.requires.child) in
    let weight = c.from-weight.ensures in
    let node = c.node_of.ensures.weight in
    let is = c.if-versions_under-few.true in
    record {
      inside = c.requires.child;
      side = inl (record { same = refl; count = omega arith; balance = omega arith });
    }
