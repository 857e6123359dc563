use Rattle.std.proofs.Common.{ℕ, List, [], ◌∷◌, ◌++◌, length, ◌∙◌, ap, subst, arith}
use Rattle.ov_graph.specs.Trees.{tree_of}
use Rattle.ov_lyre.specs.declared.run.Piece.{Piece}
use Rattle.ov_lyre.specs.Parts.{lists_of}
use Rattle.ov_lyre.specs.Runs.{ArePieces, Leads, pieces_of, piece_of}
use Rattle.ov_lyre.proofs.PartFacts.{part-long}
use Rattle.ov_lyre.proofs.NodeFacts.{sound-tree}
use Rattle.ov_lyre.proofs.StateFacts.{popped, pieces_of-last, leads-start}
use Rattle.ov_lyre.proofs.run.divided.Goals as goal

pub loop-piece-init : goal.loop-piece-init
loop-piece-init c =
    let nodes = c.args.nodes.now in
    let long = part-long (tree_of nodes) (length nodes) c.args.whole.items c.requires.part in
    let pushed = c.in_ok-push.ensures.items ∙ ap (λ (ps : List Piece). ps ++ record { part = c.args.whole; level = 0 } ∷ []) c.new-2.ensures.items in (
      rw (pushed, c.new-3.ensures.items, c.new-4.ensures.items) (leads-start (tree_of nodes) (sound-tree nodes c.requires.sound) c.args.threshold.p c.args.threshold.q c.requires.threshold (length nodes) c.args.whole.items c.requires.part long),
      (let n = c.in_ok-scratch.ensures.counts in omega arith),
      (let n = c.in_ok-scratch.ensures.sums in omega arith),
      (let n = c.in_ok-scratch.ensures.members in omega arith),
      (let n = c.in_ok-scratch.ensures.numbers in omega arith),
    )

pub advance-requires-clause-part : goal.advance-requires-clause-part
advance-requires-clause-part c =
    let nodes = c.args.nodes.now in
    let P : List (List ℕ × ℕ) → Type 0 = ArePieces (tree_of nodes) (length nodes) in
    let are = subst P (ap pieces_of c.in-Some.ensures.items ∙ pieces_of-last c.pop.new.self.items c.in-Some.piece) c.loop-piece.invariant.0.are_pieces in
    (popped (tree_of nodes) (length nodes) (pieces_of c.pop.new.self.items) (piece_of c.in-Some.piece) are).is

pub advance-requires-clause-level : goal.advance-requires-clause-level
advance-requires-clause-level c =
    let nodes = c.args.nodes.now in
    let P : List (List ℕ × ℕ) → Type 0 = ArePieces (tree_of nodes) (length nodes) in
    let are = subst P (ap pieces_of c.in-Some.ensures.items ∙ pieces_of-last c.pop.new.self.items c.in-Some.piece) c.loop-piece.invariant.0.are_pieces in
    (popped (tree_of nodes) (length nodes) (pieces_of c.pop.new.self.items) (piece_of c.in-Some.piece) are).within

pub loop-piece-preserved : goal.loop-piece-preserved
loop-piece-preserved c =
    let nodes = c.args.nodes.now in
    let run = c.loop-piece.run in
    let P : List (List ℕ × ℕ) → Type 0 = λ pieces. Leads (tree_of nodes) (length nodes) c.args.threshold.p c.args.threshold.q c.args.whole.items pieces (lists_of run.split.parts.items) run.split.cuts.items run.split.depth in
    let leads = subst P (ap pieces_of c.in-Some.ensures.items ∙ pieces_of-last c.pop.new.self.items c.in-Some.piece) c.loop-piece.invariant.0 in
    let a = c.loop-piece.invariant.1 in
    let b = c.loop-piece.invariant.2 in
    let d = c.loop-piece.invariant.3 in
    let e = c.loop-piece.invariant.4 in (
      c.in_ok-advance.ensures.leads c.args.whole.items leads,
      (let n = c.in_ok-advance.ensures.counts in omega arith),
      (let n = c.in_ok-advance.ensures.sums in omega arith),
      (let n = c.in_ok-advance.ensures.members in omega arith),
      (let n = c.in_ok-advance.ensures.numbers in omega arith),
    )
