-- The parents that a graph of versions has.
use Rattle.std.proofs.Common.{◌≡◌, ◌≤◌, ◌<◌, ◌+◌, ℕ, suc, List, [], ◌∷◌, length, map, take, get_or, sym, ◌∙◌, ap, subst, arith}
use Rattle.std.proofs.lemmas.List.{length-map, length-take-le}
use Rattle.std.proofs.Math.ListN.{get_or-map}
use Rattle.ov_graph.specs.Versions as graph
use Rattle.ov_graph.specs.Versions.{IsEdge, IsGraph, MayFollow, no_version}
use Rattle.ov_model.specs.Descent.{AreBefore, AreEarlier}
use Rattle.ov_lineage.specs.Related.{AreParents, versions_with}

abbrev pub vids_of : List (ℕ × ℕ) → List ℕ
vids_of edges = map (λ edge. edge.0) edges

abbrev pub node_parents : graph.Version → List ℕ
node_parents v = vids_of v.parents

before : (n : ℕ) (edges : List (ℕ × ℕ)) → ((k : ℕ) → k < length edges → (1 ≤ (get_or edges k (0, 0)).0) × ((get_or edges k (0, 0)).0 < n)) → AreBefore n (vids_of edges)
before n [] each = tt
before n (edge ∷ edges) each = (each 0 (omega arith), before n edges (λ k low. each (suc k) (omega (arith, low))))

earlier : (n : ℕ) (vs : List graph.Version) → ((k : ℕ) → k < length vs → AreBefore (n + k) (node_parents (get_or vs k no_version))) → AreEarlier n (versions_with (map node_parents vs))
earlier n [] each = tt
earlier n (v ∷ vs) each =
    let here : n + 0 ≡ n = omega arith
    in (
      subst (λ (m : ℕ). AreBefore m (node_parents v)) here (each 0 (omega arith)),
      earlier (n + 1) vs (λ k low.
          let next : n + suc k ≡ n + 1 + k = omega arith
          in subst (λ (m : ℕ). AreBefore m (node_parents (get_or vs k no_version))) next (each (suc k) (omega (arith, low)))),
    )

follows : (vs : List graph.Version) (k : ℕ) → k < length vs → MayFollow (take k vs) (get_or vs k no_version) → AreBefore (1 + k) (node_parents (get_or vs k no_version))
follows vs k low may =
    before (1 + k) (get_or vs k no_version).parents
    (λ j under.
    let edge : IsEdge (take k vs) (get_or vs k no_version).records (get_or (get_or vs k no_version).parents j (0, 0)) = may.edges j under
    in let long : length (take k vs) ≡ k = length-take-le k vs (omega (arith, low))
    in let one = edge.from_one
    in let there = edge.is_there
    in (one, omega (arith, there, long, low)))

pub graph_parents : (vs : List graph.Version) → IsGraph vs → AreParents (map node_parents vs)
graph_parents vs is = record {
  few = subst (λ (n : ℕ). n ≤ 65535) (sym (length-map vs node_parents)) is.few;
  earlier = earlier 1 vs (λ k low. follows vs k low (is.each k low));
  later = λ k from low.
      let under : k < length vs = subst (λ (n : ℕ). k < n) (length-map vs node_parents) low
      in let long : length (take k vs) ≡ k = length-take-le k vs (omega (arith, under))
      in let some : 0 < length (get_or vs k no_version).parents = (is.each k under).later (omega (arith, from, under, long))
      in let same : length (get_or (map node_parents vs) k []) ≡ length (get_or vs k no_version).parents =
      ap length (get_or-map node_parents vs k no_version) ∙ length-map (get_or vs k no_version).parents (λ (edge : ℕ × ℕ). edge.0)
      in omega (arith, some, same);
}
