use Rattle.std.proofs.Common.{◌≡◌, ℕ, ◌+◌, cond, eqb, length, get_or, set, refl, sym, ◌∙◌, ap, subst, arith}
use Rattle.std.specs.List.{slice_index}
use Rattle.std.proofs.lemmas.Bool.{eq-eqb, ne_eqb}
use Rattle.ov_graph.specs.Trees.{tree_of}
use Rattle.ov_lyre.proofs.PartFacts.{part-at}
use Rattle.ov_lyre.proofs.NodeFacts.{sound-tree}
use Rattle.ov_lyre.proofs.SidesFacts.{IsInherited, inherit-start, inherit-more}
use Rattle.ov_lyre.proofs.sides.inherit.Goals.{then-own-eq0, else-own-eq0}
use Rattle.ov_lyre.proofs.sides.inherit.Goals as goal

pub loop-at-init : goal.loop-at-init
loop-at-init c =
    let some = c.requires.part.some in (
      (λ cuts are stands. inherit-start (tree_of c.args.nodes.now) (sound-tree c.args.nodes.now c.requires.sound) (length c.args.nodes.now) cuts c.args.part.now c.args.numbers.now c.requires.part are stands),
      omega arith,
      omega arith,
    )

pub bounds-numbers-vid : goal.bounds-numbers-vid
bounds-numbers-vid c =
    let within = (part-at (tree_of c.args.nodes.now) (length c.args.nodes.now) c.args.part.now c.requires.part c.loop-at.at c.loop-at-test.true).within in
    let long = c.requires.numbers in
    let same = c.loop-at.auto.numbers in
    omega arith

pub node_of-requires-clause-from_one : goal.node_of-requires-clause-from_one
node_of-requires-clause-from_one c = (part-at (tree_of c.args.nodes.now) (length c.args.nodes.now) c.args.part.now c.requires.part c.loop-at.at c.loop-at-test.true).above

pub node_of-requires-clause-is_there : goal.node_of-requires-clause-is_there
node_of-requires-clause-is_there c = (part-at (tree_of c.args.nodes.now) (length c.args.nodes.now) c.args.part.now c.requires.part c.loop-at.at c.loop-at-test.true).within

pub bounds-numbers-vid-in-loop-at : goal.bounds-numbers-vid-in-loop-at
bounds-numbers-vid-in-loop-at c =
    let within = (part-at (tree_of c.args.nodes.now) (length c.args.nodes.now) c.args.part.now c.requires.part c.loop-at.at c.loop-at-test.true).within in
    let long = c.requires.numbers in
    let same = c.loop-at.auto.numbers in
    omega arith

pub loop-at-preserved : goal.loop-at-preserved
loop-at-preserved c =
    let nodes = c.args.nodes.now in
    let tree = tree_of nodes in
    let part = c.args.part.now in
    let numbers = c.loop-at.numbers in
    let at = c.loop-at.at in
    let vid = get_or part at 0 in
    let own = slice_index numbers vid in
    let above = slice_index numbers c.node_of.result.parent in
    let within = (part-at tree (length nodes) part c.requires.part at c.loop-at-test.true).within in
    let long = c.requires.numbers in
    let same = c.loop-at.auto.numbers in
    let later = c.loop-at.invariant.1 in
    let there = c.loop-at-test.true in
    let is : c.if-own-eq0.numbers ≡ cond (eqb own 0) above own = elim c.if-own-eq0.branch [
      | then-own-eq0 w ↦ w.numbers-is ∙ sym (ap (λ b. cond b above own) (eq-eqb own 0 w.if-own-eq0.true))
      | else-own-eq0 w ↦ w.numbers-is ∙ sym (ap (λ b. cond b above own) (ne_eqb own 0 w.if-own-eq0.false))
    ] in (
      (λ cuts are stands. (let more = inherit-more tree (sound-tree nodes c.requires.sound) (length nodes) cuts part numbers at own above c.requires.part are (omega arith) there (omega arith) refl (ap (slice_index numbers) c.node_of.ensures.parent) (c.loop-at.invariant.0 cuts are stands) in
          subst (λ (n : ℕ). IsInherited tree cuts part (at + 1) (set numbers vid n)) (sym is) more)),
      omega arith,
      omega arith,
    )
