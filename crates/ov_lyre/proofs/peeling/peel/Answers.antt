use Rattle.std.proofs.Common.{◌≡◌, length, refl, sym, ◌∙◌, ap, arith}
use Rattle.std.specs.List.{slice_index}
use Rattle.ov_graph.specs.Trees.{tree_of}
use Rattle.ov_graph.specs.Splits.{lower}
use Rattle.ov_lyre.specs.Sides.{left}
use Rattle.ov_lyre.proofs.PartFacts.{lies, edge-has, part-long, total-ones}
use Rattle.ov_lyre.proofs.NodeFacts.{sound-tree}
use Rattle.ov_lyre.proofs.EdgeFacts.{cut-at}
use Rattle.ov_lyre.proofs.StepFacts.{of-few}
use Rattle.ov_lyre.proofs.peeling.peel.Goals as goal

pub bounds-summed-child : goal.bounds-summed-child
bounds-summed-child c =
    let s = c.args.summed.now in
    let at = cut-at (tree_of s.nodes.now) (sound-tree s.nodes.now c.requires.summed.sound) c.args.threshold.p c.args.threshold.q c.requires.threshold (length s.nodes.now) s.part.now c.args.child c.requires.summed.is c.requires.next in
    let within = (lies 0 (length s.nodes.now) s.part.now c.args.child c.requires.summed.is.ascends (edge-has s.part.now c.args.child at.inside)).within in
    let long = c.requires.summed.counts_long in
    omega arith

pub keys_of-requires-clause-few : goal.keys_of-requires-clause-few
keys_of-requires-clause-few c =
    let s = c.args.summed.now in
    let tree = tree_of s.nodes.now in
    let sound = sound-tree s.nodes.now c.requires.summed.sound in
    let at = cut-at tree sound c.args.threshold.p c.args.threshold.q c.requires.threshold (length s.nodes.now) s.part.now c.args.child c.requires.summed.is c.requires.next in
    let counted : slice_index s.counts.now c.args.child ≡ length (lower tree c.args.child s.part.now) =
    c.requires.summed.counts c.args.child (edge-has s.part.now c.args.child at.inside) ∙ total-ones (lower tree c.args.child s.part.now) in
    of-few tree sound c.args.threshold.p c.args.threshold.q (length s.nodes.now) (slice_index s.counts.now c.args.child) c.requires.threshold s.part.now c.args.child c.requires.summed.is c.requires.next (sym counted) c.requires.half

pub loop-peeling-init : goal.loop-peeling-init
loop-peeling-init c =
    let s = c.args.summed.now in
    let tree = tree_of s.nodes.now in
    let none = c.new.ensures.items in
    let whole : left tree s.part.now c.new.result.items ≡ s.part.now = ap (left tree s.part.now) none in
    let long = part-long tree (length s.nodes.now) s.part.now c.requires.summed.is in
    let few = c.requires.summed.sound.few in
    let half = c.requires.half in
    record {
      next = rw none tt;
      is = rw whole c.requires.summed.is;
      keys_are = rw whole c.in_ok-keys_of.ensures;
      few_is = omega arith;
      versions_is = rw whole refl;
      records_is = rw whole c.requires.summed.records_is;
      members_is = rw whole c.requires.summed.members_is;
      few_records = c.requires.summed.few_records;
      few_members = c.requires.summed.few_members;
    }
