-- The reduced tree of a graph is sound.
use Rattle.std.proofs.Common.{◌≡◌, ℕ, zero, suc, ◌-◌, ◌<◌, ◌≤◌, ltb, List, [], ◌∷◌, length, take, get_or, refl, ◌∙◌, ap, subst, inl, inr, arith}
use Rattle.std.proofs.lemmas.Bool.{cases_Bool, ltb-true, ltb-false, le-ltb, cond-true, cond-false}
use Rattle.std.proofs.lemmas.List.{get_or-map, get_or-take, length-map, length-take-le}
use Rattle.ov_graph.specs.declared.nodes.Node.{Node}
use Rattle.ov_graph.specs.Trees.{no_node, node_at, IsSound, IsTreeEdge}
use Rattle.ov_graph.specs.Versions.{Version, no_version, version_at, IsEdge, MayFollow, IsGraph, IsKept, heaviest, node_of, reduced}

-- one more edge in front, which is not kept, or is
kept_later : (edge : ℕ × ℕ) (edges : List (ℕ × ℕ)) (best : ℕ × ℕ) → edge.1 < best.1 → IsKept edges best → IsKept (edge ∷ edges) best
kept_later edge edges best less kept = record { place = suc kept.place; within = let h = kept.within in omega arith; is = kept.is; greatest = all; first = before }
  where
    all : (k : ℕ) → k < length (edge ∷ edges) → (get_or (edge ∷ edges) k (0, 0)).1 ≤ best.1
    all zero within = omega arith
    all (suc k) within = kept.greatest k (omega arith)

    before : (k : ℕ) → k < suc kept.place → (get_or (edge ∷ edges) k (0, 0)).1 < best.1
    before zero within = less
    before (suc k) within = kept.first k (omega arith)

kept_here : (edge : ℕ × ℕ) (edges : List (ℕ × ℕ)) (best : ℕ × ℕ) → best.1 ≤ edge.1 → IsKept edges best → IsKept (edge ∷ edges) edge
kept_here edge edges best most kept = record { place = 0; within = omega arith; is = refl; greatest = all; first = λ k below. absurd (omega arith) }
  where
    all : (k : ℕ) → k < length (edge ∷ edges) → (get_or (edge ∷ edges) k (0, 0)).1 ≤ edge.1
    all zero within = omega arith
    all (suc k) within = let h = kept.greatest k (omega arith) in omega arith

pub heaviest-IsKept : (edges : List (ℕ × ℕ)) → 0 < length edges → IsKept edges (heaviest edges)
heaviest-IsKept [] lt = absurd (omega arith)
heaviest-IsKept (edge ∷ []) lt =
    let is = cond-false (ltb edge.1 0) (0, 0) edge (le-ltb edge.1 0 (omega arith)) in
    rw is (record { place = 0; within = lt; is = refl; greatest = one; first = λ k below. absurd (omega arith) })
  where
    one : (k : ℕ) → k < length (edge ∷ []) → (get_or (edge ∷ []) k (0, 0)).1 ≤ edge.1
    one zero within = omega arith
    one (suc k) within = absurd (omega arith)
heaviest-IsKept (edge ∷ other ∷ edges) lt =
    let best = heaviest (other ∷ edges) in
    let rest = heaviest-IsKept (other ∷ edges) (omega arith) in
    elim (cases_Bool (ltb edge.1 best.1)) [
      | inl later ↦ rw (cond-true (ltb edge.1 best.1) best edge later) (kept_later edge (other ∷ edges) best (ltb-true edge.1 best.1 later) rest)
      | inr here ↦ rw (cond-false (ltb edge.1 best.1) best edge here) (kept_here edge (other ∷ edges) best (ltb-false edge.1 best.1 here) rest)
    ]

-- the kept edge of a version that may follow others
kept : (versions : List Version) (version : Version) → MayFollow versions version → 0 < length versions → IsEdge versions version.records (heaviest version.parents)
kept versions version follows lt =
    let found = heaviest-IsKept version.parents (follows.later lt) in
    subst (IsEdge versions version.records) found.is (follows.edges found.place found.within)

node-at : (versions : List Version) (k : ℕ) → k < length versions → get_or (reduced versions) k no_node ≡ node_of (get_or versions k no_version)
node-at versions k lt = get_or-map node_of versions k no_version no_node lt

root : (versions : List Version) → IsGraph versions → (heaviest (get_or versions 0 no_version).parents ≡ (0, 0))
root [] graph = refl
root (version ∷ versions) graph = ap heaviest ((graph.each 0 (omega arith)).first refl)

root_node : (versions : List Version) → node_at (reduced versions) 1 ≡ node_of (get_or versions 0 no_version)
root_node [] = refl
root_node (version ∷ versions) = refl

module _ (versions : List Version) (graph : IsGraph versions) where
  tree_edge : (k : ℕ) → 0 < k → k < length versions → IsTreeEdge (reduced versions) (suc k) (node_of (get_or versions k no_version))
  tree_edge k pos lt =
      let long : length (take k versions) ≡ k = length-take-le k versions (omega arith) in
      let version = get_or versions k no_version in
      let edge = kept (take k versions) version (graph.each k lt) (omega arith) in
      let there = edge.is_there in
      let one = edge.from_one in
      let parent = (heaviest version.parents).0 in
      let place : parent - 1 < k = omega arith in
      let known : version_at (take k versions) parent ≡ version_at versions parent = get_or-take k versions (parent - 1) no_version place in
      let node : node_at (reduced versions) parent ≡ node_of (version_at versions parent) = node-at versions (parent - 1) (omega arith) in
      let within = edge.within_parent in
      record {
        from_one = edge.from_one;
        below = omega arith;
        within_own = edge.within_own;
        within_parent = rw node (subst (λ (v : Version). (heaviest version.parents).1 ≤ v.records) known within);
      }

  pub reduced-IsSound : IsSound (reduced versions)
  reduced-IsSound = record {
    few = rw (length-map versions node_of) graph.few;
    root_parent = ap (λ (n : Node). n.parent) (root_node versions) ∙ ap (λ (e : ℕ × ℕ). e.0) (root versions graph);
    root_weight = ap (λ (n : Node). n.weight) (root_node versions) ∙ ap (λ (e : ℕ × ℕ). e.1) (root versions graph);
    edges = λ k pos lt.
        let within : k < length versions = rw (length-map versions node_of) at lt in
        rw (node-at versions k within) (tree_edge k pos within);
  }
