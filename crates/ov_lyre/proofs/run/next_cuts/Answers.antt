use Rattle.std.proofs.Common.{◌≡◌, Some, length, sym, ◌∙◌, arith}
use Rattle.std.specs.List.{slice_index}
use Rattle.ov_graph.specs.Trees.{tree_of}
use Rattle.ov_graph.specs.Splits.{lower, next_cut_of}
use Rattle.ov_lyre.proofs.PartFacts.{lies, edge-has, part-long, total-same, total-ones}
use Rattle.ov_lyre.proofs.NodeFacts.{sound-tree}
use Rattle.ov_lyre.proofs.CutFacts.{sides}
use Rattle.ov_lyre.proofs.EdgeFacts.{cut-at}
use Rattle.ov_lyre.proofs.ChoiceFacts.{stands-total}
use Rattle.ov_lyre.proofs.run.next_cuts.Goals as goal

pub bounds-counts-child : goal.bounds-counts-child
bounds-counts-child c =
    let next : next_cut_of (tree_of c.args.nodes.now) c.args.threshold.p c.args.threshold.q c.args.part.now ≡ Some c.in-Some.child = sym c.in-Some.ensures.next in
    let at = cut-at (tree_of c.args.nodes.now) (sound-tree c.args.nodes.now c.requires.sound) c.args.threshold.p c.args.threshold.q c.requires.threshold (length c.args.nodes.now) c.args.part.now c.in-Some.child c.requires.part next in
    let within = (lies 0 (length c.args.nodes.now) c.args.part.now c.in-Some.child c.requires.part.ascends (edge-has c.args.part.now c.in-Some.child at.inside)).within in
    let long = c.requires.counts in
    let same = c.next_cut.auto.counts in
    omega arith

pub overflow_mul-counts : goal.overflow_mul-counts
overflow_mul-counts c =
    let tree = tree_of c.args.nodes.now in
    let sound = sound-tree c.args.nodes.now c.requires.sound in
    let next : next_cut_of tree c.args.threshold.p c.args.threshold.q c.args.part.now ≡ Some c.in-Some.child = sym c.in-Some.ensures.next in
    let at = cut-at tree sound c.args.threshold.p c.args.threshold.q c.requires.threshold (length c.args.nodes.now) c.args.part.now c.in-Some.child c.requires.part next in
    let counted : slice_index c.next_cut.new.counts c.in-Some.child ≡ length (lower tree c.in-Some.child c.args.part.now) = c.in-Some.ensures.counts c.in-Some.child (edge-has c.args.part.now c.in-Some.child at.inside) ∙ total-ones (lower tree c.in-Some.child c.args.part.now) in
    let long = (sides tree sound (length c.args.nodes.now) c.args.part.now c.in-Some.child c.requires.part at.inside).lengths in
    let short = part-long tree (length c.args.nodes.now) c.args.part.now c.requires.part in
    let few = c.requires.sound.few in
    omega arith

pub add_up-requires-clause-small : goal.add_up-requires-clause-small
add_up-requires-clause-small c =
    let tree = tree_of c.args.nodes.now in
    let same = total-same (slice_index c.fill_members.new.members) tree.records c.args.part.now c.fill_members.ensures in
    let few = c.add_totals-totals.ensures.few_members in
    let is = c.add_totals-totals.ensures.members in
    omega (arith, same, few, is)

pub peel-requires-clause-summed : goal.peel-requires-clause-summed
peel-requires-clause-summed c =
    let tree = tree_of c.args.nodes.now in
    let part = c.args.part.now in
    let a = c.next_cut.auto.counts in
    let b = c.next_cut.auto.sums in
    let d = c.fill_members.auto.members in
    let e = c.add_up.auto.sums in
    let counts_long = c.requires.counts in
    let sums_long = c.requires.sums in
    let members_long = c.requires.members in
    record {
      sound = c.requires.sound;
      is = c.requires.part;
      records_is = c.add_totals-totals.ensures.records;
      members_is = c.add_totals-totals.ensures.members;
      few_records = c.add_totals-totals.ensures.few_records;
      few_members = c.add_totals-totals.ensures.few_members;
      counts_long = omega arith;
      fresh_long = omega arith;
      members_long = omega arith;
      counts = c.in-Some.ensures.counts;
      fresh_is = c.in-Some.ensures.sums;
      under = λ vid has. c.add_up.ensures vid has ∙ stands-total tree tree.records part c.fill_members.new.members vid c.fill_members.ensures;
    }
