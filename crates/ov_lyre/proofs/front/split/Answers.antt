use Rattle.std.proofs.Common.{◌≡◌, ℕ, List, length, sym, ◌∙◌, ap, subst, arith}
use Rattle.std.specs.Prelude.{Vec}
use Rattle.std.specs.declared.alloc.Global.{Global}
use Rattle.std.proofs.lemmas.Result.{IfOk-weaker}
use Rattle.ov_graph.specs.declared.nodes.Node.{Node}
use Rattle.ov_graph.specs.Trees.{tree_of, vids}
use Rattle.ov_graph.specs.Splits.{IsPart, cuts_of, leaves, cut_vids, depth, first_of, in_order}
use Rattle.ov_lyre.specs.Parts.{lists_of}
use Rattle.ov_lyre.proofs.NodeFacts.{sound-tree}
use Rattle.ov_lyre.proofs.OrderFacts.{sorted-in_order, map-in_order}
use Rattle.ov_lyre.proofs.LawFacts.{split-laws, vids-IsPart, found-keys, found-vids, found-bounds, both-ok}
use Rattle.ov_lyre.proofs.DivisionFacts.{found-division}
use Rattle.ov_lyre.proofs.front.split.Goals as goal

pub returns-in_err-whole-clause-laws : goal.returns-in_err-whole-clause-laws
returns-in_err-whole-clause-laws c = let nodes = c.args.tree.now.nodes.items in split-laws (tree_of nodes) (sound-tree nodes c.requires.sound) c.args.p c.args.q c.requires.up_to_q (length nodes)

pub returns-in_err-split-clause-laws : goal.returns-in_err-split-clause-laws
returns-in_err-split-clause-laws c = let nodes = c.args.tree.now.nodes.items in split-laws (tree_of nodes) (sound-tree nodes c.requires.sound) c.args.p c.args.q c.requires.up_to_q (length nodes)

pub returns-clause-laws : goal.returns-clause-laws
returns-clause-laws c = let nodes = c.args.tree.now.nodes.items in split-laws (tree_of nodes) (sound-tree nodes c.requires.sound) c.args.p c.args.q c.requires.up_to_q (length nodes)

pub divided-requires-clause-part : goal.divided-requires-clause-part
divided-requires-clause-part c =
    let nodes = c.args.tree.now.nodes.items in
    let count : c.len.result ≡ length nodes = omega (arith, c.len.ensures, c.args.tree.now.nodes.ok) in
    let P : List Node → Type 0 = λ ns. IsPart (tree_of ns) (length ns) c.in_ok-whole.whole.items in
    subst P (sym c.deref.ensures.value) (rw (c.in_ok-whole.ensures, count) (vids-IsPart nodes c.requires.sound c.requires.some))

pub returns-clause-parts : goal.returns-clause-parts
returns-clause-parts c =
    let nodes = c.args.tree.now.nodes.items in
    let tree = tree_of nodes in
    let count : c.len.result ≡ length nodes = omega (arith, c.len.ensures, c.args.tree.now.nodes.ok) in
    let xs = c.in_ok-split.split.parts.items in
    let is : lists_of xs ≡ leaves (cuts_of tree c.args.p c.args.q (vids (length nodes))) = rw (c.in_ok-whole.ensures, count, c.deref.ensures.value) at c.in_ok-split.ensures.parts in
    IfOk-weaker c.in_order.result _ _ (λ sorted from.
    ap lists_of (sorted-in_order (λ (part : Vec ℕ Global). first_of part.items) xs sorted.parts.items (length nodes) from (found-keys nodes c.requires.sound c.requires.some c.args.p c.args.q c.requires.up_to_q xs is))
    ∙ map-in_order (λ (part : Vec ℕ Global). part.items) first_of (vids (length nodes)) xs
    ∙ ap (λ (parts : List (List ℕ)). in_order first_of (vids (length nodes)) parts) is) c.in_order.ensures.parts

pub returns-clause-cuts : goal.returns-clause-cuts
returns-clause-cuts c =
    let nodes = c.args.tree.now.nodes.items in
    let tree = tree_of nodes in
    let count : c.len.result ≡ length nodes = omega (arith, c.len.ensures, c.args.tree.now.nodes.ok) in
    let xs = c.in_ok-split.split.cuts.items in
    let is : xs ≡ cut_vids (cuts_of tree c.args.p c.args.q (vids (length nodes))) = rw (c.in_ok-whole.ensures, count, c.deref.ensures.value) at c.in_ok-split.ensures.cuts in
    IfOk-weaker c.in_order.result _ _ (λ sorted from.
    sorted-in_order (λ (vid : ℕ). vid) xs sorted.cuts.items (length nodes) from (found-vids nodes c.requires.sound c.requires.some c.args.p c.args.q c.requires.up_to_q xs is)
    ∙ ap (λ (cuts : List ℕ). in_order (λ (vid : ℕ). vid) (vids (length nodes)) cuts) is) c.in_order.ensures.cuts

pub returns-clause-depth : goal.returns-clause-depth
returns-clause-depth c =
    let nodes = c.args.tree.now.nodes.items in
    let count : c.len.result ≡ length nodes = omega (arith, c.len.ensures, c.args.tree.now.nodes.ok) in
    let is : c.in_ok-split.split.depth ≡ depth (cuts_of (tree_of nodes) c.args.p c.args.q (vids (length nodes))) = rw (c.in_ok-whole.ensures, count, c.deref.ensures.value) at c.in_ok-split.ensures.depth in
    IfOk-weaker c.in_order.result _ _ (λ sorted same. same ∙ is) c.in_order.ensures.depth

pub returns-clause-bounds : goal.returns-clause-bounds
returns-clause-bounds c =
    let nodes = c.args.tree.now.nodes.items in
    let tree = tree_of nodes in
    let count : c.len.result ≡ length nodes = omega (arith, c.len.ensures, c.args.tree.now.nodes.ok) in
    let xs = c.in_ok-split.split.parts.items in
    let is : lists_of xs ≡ leaves (cuts_of tree c.args.p c.args.q (vids (length nodes))) = rw (c.in_ok-whole.ensures, count, c.deref.ensures.value) at c.in_ok-split.ensures.parts in
    let deep : c.in_ok-split.split.depth ≡ depth (cuts_of tree c.args.p c.args.q (vids (length nodes))) = rw (c.in_ok-whole.ensures, count, c.deref.ensures.value) at c.in_ok-split.ensures.depth in
    both-ok c.in_order.result _ _ _ (λ sorted from same. found-bounds nodes c.requires.sound c.requires.some c.args.p c.args.q c.requires.up_to_q xs sorted.parts.items sorted.depth is (same ∙ deep) from.permutation) c.in_order.ensures.parts c.in_order.ensures.depth

pub returns-clause-division : goal.returns-clause-division
returns-clause-division c =
    let nodes = c.args.tree.now.nodes.items in
    let tree = tree_of nodes in
    let count : c.len.result ≡ length nodes = omega (arith, c.len.ensures, c.args.tree.now.nodes.ok) in
    let xs = c.in_ok-split.split.parts.items in
    let is : lists_of xs ≡ leaves (cuts_of tree c.args.p c.args.q (vids (length nodes))) = rw (c.in_ok-whole.ensures, count, c.deref.ensures.value) at c.in_ok-split.ensures.parts in
    IfOk-weaker c.in_order.result _ _ (λ sorted from. found-division nodes c.requires.sound c.requires.some c.args.p c.args.q c.requires.up_to_q xs sorted.parts.items is from.permutation) c.in_order.ensures.parts
