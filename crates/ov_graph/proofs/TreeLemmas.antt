-- Sums over the versions of a tree.
use Rattle.std.proofs.Common.{◌≡◌, ℕ, zero, suc, ◌+◌, ◌-◌, ◌<◌, ◌≤◌, List, [], ◌∷◌, ◌++◌, length, get_or, refl, ◌∙◌, ap, arith, add-zero}
use Rattle.std.specs.List.{range_with_len}
use Rattle.ov_graph.specs.declared.nodes.Node.{Node}
use Rattle.ov_graph.specs.Trees.{total, vids, no_node, node_at, IsSound}

pub total-append : (f : ℕ → ℕ) (xs ys : List ℕ) → total f (xs ++ ys) ≡ total f xs + total f ys
total-append f [] ys = omega arith
total-append f (x ∷ xs) ys = omega (arith, total-append f xs ys)

pub range-more : (from count : ℕ) → range_with_len from (suc count) ≡ range_with_len from count ++ (from + count) ∷ []
range-more from zero = rw add-zero refl
range-more from (suc count) =
    let e : from + 1 + count ≡ from + suc count = omega arith in
    ap (λ (xs : List ℕ). from ∷ xs) (range-more (from + 1) count ∙ rw e refl)

pub total-more : (f : ℕ → ℕ) (count : ℕ) → total f (vids (count + 1)) ≡ total f (vids count) + f (count + 1)
total-more f count =
    let s : count + 1 ≡ suc count = omega arith in
    let more : range_with_len 1 (count + 1) ≡ range_with_len 1 count ++ (1 + count) ∷ [] = rw s (range-more 1 count) in
    ap (total f) more ∙ total-append f (vids count) ((1 + count) ∷ []) ∙ (let h : 1 + count ≡ count + 1 = omega arith in rw h (omega arith))

-- the node of a vid, where its place in the list is known
pub node_at-next : (nodes : List Node) (k : ℕ) → k < length nodes → node_at nodes (k + 1) ≡ get_or nodes k no_node
node_at-next nodes k lt = let s : k + 1 - 1 ≡ k = omega arith in rw s refl

pub within_own-at : (nodes : List Node) → IsSound nodes → (k : ℕ) → k < length nodes → (node_at nodes (k + 1)).weight ≤ (node_at nodes (k + 1)).records
within_own-at nodes sound zero lt = let e = sound.root_weight in omega arith
within_own-at nodes sound (suc k) lt =
    let s : suc k + 1 - 1 ≡ suc k = omega arith in
    rw s ((sound.edges (suc k) (omega arith) lt).within_own)
