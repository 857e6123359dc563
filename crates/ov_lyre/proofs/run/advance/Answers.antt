use Rattle.std.proofs.Common.{◌≡◌, ℕ, ◌<◌, None, List, [], ◌∷◌, length, refl, sym, ◌∙◌, ap, arith}
use Rattle.std.specs.Prelude.{Vec}
use Rattle.std.specs.Vec.{vec_len}
use Rattle.std.proofs.lemmas.Bool.{eqb-true, eqb-false}
use Rattle.std.specs.declared.alloc.Global.{Global}
use Rattle.std.proofs.lemmas.List.{length-map}
use Rattle.std.proofs.lemmas.Result.{IfOk-weaker}
use Rattle.ov_graph.specs.Trees.{tree_of}
use Rattle.ov_graph.specs.Splits.{next_cut_of}
use Rattle.ov_lyre.specs.Parts.{lists_of}
use Rattle.ov_lyre.specs.Runs.{pieces_of}
use Rattle.ov_lyre.specs.Sides.{AreNext, left, lowers}
use Rattle.ov_lyre.proofs.NodeFacts.{sound-tree}
use Rattle.ov_lyre.proofs.SidesFacts.{cuts-few}
use Rattle.ov_lyre.proofs.StateFacts.{on-ok, leads-stop, leads-cuts, fewer-stop, fewer-cuts, next-inside, lowers-long}
use Rattle.ov_lyre.proofs.run.advance.Goals as goal

nothing : (xs : List ℕ) → length xs ≡ 0 → xs ≡ []
nothing [] none = refl
nothing (x ∷ xs) none = absurd (omega arith)

pub returns-then-is_empty-clause-leads : goal.returns-then-is_empty-clause-leads
returns-then-is_empty-clause-leads c =
    let nodes = c.args.nodes.now in
    let part = c.args.piece.part.items in
    let zero = eqb-true (vec_len c.in_ok-cuts.cuts) 0 (sym c.if-is_empty.ensures) in
    let empty : c.in_ok-cuts.cuts.items ≡ [] = nothing c.in_ok-cuts.cuts.items (omega (arith, zero, c.in_ok-cuts.cuts.ok)) in
    let none : next_cut_of (tree_of nodes) c.args.threshold.p c.args.threshold.q part ≡ None = rw c.deref.ensures.value at c.in_ok-cuts.ensures.none empty in
    let said = c.set_aside.ensures in
    on-ok c.set_aside.result said.work said.parts said.cuts said.depth (λ work parts cuts depth whole leads.
    rw (work, parts, cuts, depth) (leads-stop (tree_of nodes) (sound-tree nodes c.requires.sound) c.args.threshold.p c.args.threshold.q c.requires.threshold (length nodes) whole (pieces_of c.args.run.now.work.items) part c.args.piece.level (lists_of c.args.run.now.split.parts.items) c.args.run.now.split.cuts.items c.args.run.now.split.depth none leads))

pub returns-then-is_empty-clause-fewer : goal.returns-then-is_empty-clause-fewer
returns-then-is_empty-clause-fewer c =
    let nodes = c.args.nodes.now in
    IfOk-weaker c.set_aside.result _ _ (λ _ work. rw work (fewer-stop (tree_of nodes) (sound-tree nodes c.requires.sound) c.args.threshold.p c.args.threshold.q c.requires.threshold (length nodes) c.args.piece.part.items (pieces_of c.args.run.now.work.items) c.args.piece.part.items c.args.piece.level c.requires.part)) c.set_aside.ensures.work

pub sides_of-requires-clause-cuts : goal.sides_of-requires-clause-cuts
sides_of-requires-clause-cuts c =
    let nodes = c.args.nodes.now in
    let tree = tree_of nodes in
    let part = c.args.piece.part.items in
    let next : AreNext tree c.args.threshold.p c.args.threshold.q part c.in_ok-cuts.cuts.items = rw c.deref.ensures.value at c.in_ok-cuts.ensures.next in
    let inside = next-inside tree (sound-tree nodes c.requires.sound) c.args.threshold.p c.args.threshold.q c.requires.threshold (length nodes) part c.in_ok-cuts.cuts.items c.requires.part next in
    rw (c.deref-2.ensures.value, c.deref-3.ensures.value) inside

pub divide-requires : goal.divide-requires
divide-requires c =
    let nodes = c.args.nodes.now in
    let tree = tree_of nodes in
    let part = c.args.piece.part.items in
    let cuts = c.in_ok-cuts.cuts.items in
    let sound = sound-tree nodes c.requires.sound in
    let next : AreNext tree c.args.threshold.p c.args.threshold.q part cuts = rw c.deref.ensures.value at c.in_ok-cuts.ensures.next in
    let inside = next-inside tree sound c.args.threshold.p c.args.threshold.q c.requires.threshold (length nodes) part cuts c.requires.part next in
    let few = cuts-few tree sound (length nodes) part cuts c.requires.part inside in
    let below : lists_of c.in_ok-sides.sides.below.items ≡ lowers tree part cuts = c.in_ok-sides.ensures.below ∙ rw (c.deref-2.ensures.value, c.deref-3.ensures.value) refl in
    let long : length c.in_ok-sides.sides.below.items ≡ length cuts = sym (length-map c.in_ok-sides.sides.below.items (λ (v : Vec ℕ Global). v.items)) ∙ ap length below ∙ lowers-long tree sound c.args.threshold.p c.args.threshold.q c.requires.threshold (length nodes) part cuts in
    let level = c.requires.level in
    let most = c.requires.sound.few in
    omega arith

pub returns-clause-leads : goal.returns-clause-leads
returns-clause-leads c =
    let nodes = c.args.nodes.now in
    let tree = tree_of nodes in
    let p = c.args.threshold.p in
    let q = c.args.threshold.q in
    let part = c.args.piece.part.items in
    let cuts = c.in_ok-cuts.cuts.items in
    let sound = sound-tree nodes c.requires.sound in
    let next : AreNext tree p q part cuts = rw c.deref.ensures.value at c.in_ok-cuts.ensures.next in
    let below : lists_of c.in_ok-sides.sides.below.items ≡ lowers tree part cuts = c.in_ok-sides.ensures.below ∙ rw (c.deref-2.ensures.value, c.deref-3.ensures.value) refl in
    let above : c.in_ok-sides.sides.above.items ≡ left tree part cuts = c.in_ok-sides.ensures.above ∙ rw (c.deref-2.ensures.value, c.deref-3.ensures.value) refl in
    let long : length c.in_ok-sides.sides.below.items ≡ length cuts = sym (length-map c.in_ok-sides.sides.below.items (λ (v : Vec ℕ Global). v.items)) ∙ ap length below ∙ lowers-long tree sound p q c.requires.threshold (length nodes) part cuts in
    let said = c.divide.ensures in
    on-ok c.divide.result said.work said.parts said.cuts said.depth (λ work parts made depth whole leads.
    rw (work, parts, made, depth, above, below, long, c.deref-4.ensures.value) (leads-cuts tree sound p q c.requires.threshold (length nodes) whole (pieces_of c.args.run.now.work.items) part c.args.piece.level (lists_of c.args.run.now.split.parts.items) c.args.run.now.split.cuts.items c.args.run.now.split.depth cuts c.requires.part c.requires.level next leads))

pub returns-clause-fewer : goal.returns-clause-fewer
returns-clause-fewer c =
    let nodes = c.args.nodes.now in
    let tree = tree_of nodes in
    let p = c.args.threshold.p in
    let q = c.args.threshold.q in
    let part = c.args.piece.part.items in
    let cuts = c.in_ok-cuts.cuts.items in
    let sound = sound-tree nodes c.requires.sound in
    let next : AreNext tree p q part cuts = rw c.deref.ensures.value at c.in_ok-cuts.ensures.next in
    let inside = next-inside tree sound p q c.requires.threshold (length nodes) part cuts c.requires.part next in
    let below : lists_of c.in_ok-sides.sides.below.items ≡ lowers tree part cuts = c.in_ok-sides.ensures.below ∙ rw (c.deref-2.ensures.value, c.deref-3.ensures.value) refl in
    let above : c.in_ok-sides.sides.above.items ≡ left tree part cuts = c.in_ok-sides.ensures.above ∙ rw (c.deref-2.ensures.value, c.deref-3.ensures.value) refl in
    let long : length c.in_ok-sides.sides.below.items ≡ length cuts = sym (length-map c.in_ok-sides.sides.below.items (λ (v : Vec ℕ Global). v.items)) ∙ ap length below ∙ lowers-long tree sound p q c.requires.threshold (length nodes) part cuts in
    let more = eqb-false (vec_len c.in_ok-cuts.cuts) 0 (sym c.if-is_empty.ensures) in
    let some : 0 < length cuts = omega (arith, more, c.in_ok-cuts.cuts.ok) in
    let said = c.divide.ensures in
    on-ok c.divide.result said.work said.parts said.cuts said.depth (λ work parts made depth. rw (work, above, below, long) (fewer-cuts tree sound p q c.requires.threshold (length nodes) (pieces_of c.args.run.now.work.items) part c.args.piece.level cuts some c.requires.part inside))
