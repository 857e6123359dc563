-- The nodes of a dataset's reduced tree are a sound tree, in whose weights are the records that versions share.
use Rattle.std.proofs.Common.{◌≡◌, ◌≢◌, ◌≤◌, ◌<◌, ℕ, zero, suc, ◌+◌, ◌-◌, Bool, true, false, List, [], ◌∷◌, ◌++◌, length, get_or, filter, refl, sym, ◌∙◌, ap, subst, inl, inr, arith}
use Rattle.std.specs.Prelude.{nat_lt, slice_index_or, if◌then◌else◌}
use Rattle.std.specs.List.{range_with_len}
use Rattle.std.proofs.lemmas.List.{length-append, length-map, get_or_past}
use Rattle.std.proofs.lemmas.List.FromFn.{length-range_with_len}
use Rattle.std.proofs.lemmas.List.Sums.{length-filter}
use Rattle.std.proofs.lemmas.Bool.{cases_lt, ltb-true}
use Rattle.ov_graph.specs.declared.nodes.Node.{Node}
use Rattle.ov_graph.specs.Splits.{Ascends, HasParents, IsPart, edges}
use Rattle.ov_graph.specs.Trees.{VersionTree, no_node, tree_of, vids}
use Rattle.ov_graph.specs.Versions.{heaviest, node_of, reduced}
use Rattle.ov_lyre.proofs.LawFacts.{has-vid}
use Rattle.ov_lyre.proofs.UnderFacts.{IsSoundTree}
use Rattle.ov_model.specs.Book.{Version}
use Rattle.ov_model.specs.Placed.{AreThere}
use Rattle.ov_model.specs.Plans.{graph_of, nodes_of_set}
use Rattle.ov_model.specs.Records.{Rec, is_among, recs, record_of, records_of, of_version, weight, weights}
use Rattle.ov_model.specs.World.{Dataset}
use Rattle.law_partitions.specs.PlanEnds.{AreParents, HaveParents}
use Rattle.law_partitions.proofs.PlanParts.{nodes_long}

-- ---- the kept edge is one of the edges

record IsEdge (count : ℕ) (rs : List Rec) (done : List (List Rec)) (edge : ℕ × ℕ) : Type 0 where
  from_one : 1 ≤ edge.0
  there : edge.0 ≤ count
  shared : edge.1 ≡ weight rs (of_version done edge.0)

edge_if : (t : Bool) (count : ℕ) (rs : List Rec) (done : List (List Rec)) (edge other : ℕ × ℕ) → (t ≡ true → IsEdge count rs done other) → IsEdge count rs done edge → IsEdge count rs done (if t then other else edge)
edge_if true count rs done edge other is here = is refl
edge_if false count rs done edge other is here = here

first_edge : (count p : ℕ) (rs : List Rec) (done : List (List Rec)) → (1 ≤ p) × (p ≤ count) → IsEdge count rs done (p, weight rs (of_version done p))
first_edge count p rs done are = record { from_one = are.0; there = are.1; shared = refl }

kept_edge : (count p : ℕ) (ps : List ℕ) (rs : List Rec) (done : List (List Rec)) → AreThere count (p ∷ ps) → IsEdge count rs done (heaviest (weights (p ∷ ps) rs done))
kept_edge count p [] rs done are =
    edge_if (nat_lt (weight rs (of_version done p)) 0) count rs done (p, weight rs (of_version done p)) (0, 0)
    (λ less. absurd (omega (arith, ltb-true (weight rs (of_version done p)) 0 less))) (first_edge count p rs done are.0)
kept_edge count p (q ∷ ps) rs done are =
    edge_if (nat_lt (weight rs (of_version done p)) (heaviest (weights (q ∷ ps) rs done)).1) count rs done (p, weight rs (of_version done p)) (heaviest (weights (q ∷ ps) rs done))
    (λ less. kept_edge count q ps rs done are.1) (first_edge count p rs done are.0)

some_edge : (count : ℕ) (ps : List ℕ) (rs : List Rec) (done : List (List Rec)) → ps ≢ [] → AreThere count ps → IsEdge count rs done (heaviest (weights ps rs done))
some_edge count [] rs done some are = absurd (some refl)
some_edge count (p ∷ ps) rs done some are = kept_edge count p ps rs done are

no_edge : (ps : List ℕ) (rs : List Rec) (done : List (List Rec)) → ps ≡ [] → heaviest (weights ps rs done) ≡ (0, 0)
no_edge ps rs done none = ap (λ l. heaviest (weights l rs done)) none

-- ---- nodes

-- a node at a place, by the records of all versions
pub record IsNode (done : List (List Rec)) (k : ℕ) (node : Node) : Type 0 where
  pub lower : node.parent ≤ k
  pub some : 0 < k → 1 ≤ node.parent
  pub root : k ≡ 0 → node.weight ≡ 0
  pub records : node.records ≡ length (get_or done k [])
  pub shared : 0 < k → node.weight ≡ weight (get_or done k []) (of_version done node.parent)

at_more : (done : List (List Rec)) (l : List Rec) (k : ℕ) → k < length done → get_or (done ++ l ∷ []) k [] ≡ get_or done k []
at_more [] l k low = absurd (omega (arith, low))
at_more (x ∷ done) l zero low = refl
at_more (x ∷ done) l (suc k) low = at_more done l k (omega (arith, low))

at_last : (done : List (List Rec)) (l : List Rec) → get_or (done ++ l ∷ []) (length done) [] ≡ l
at_last [] l = refl
at_last (x ∷ done) l = at_last done l

longer : (done : List (List Rec)) (l : List Rec) → length (done ++ l ∷ []) ≡ length done + 1
longer done l = length-append done (l ∷ [])

at_recs : (vs : List Version) (done : List (List Rec)) (k : ℕ) → k < length done → get_or (recs vs done) k [] ≡ get_or done k []
at_recs [] done k low = refl
at_recs (v ∷ vs) done k low =
    at_recs vs (done ++ records_of v done ∷ []) k (omega (arith, longer done (records_of v done), low)) ∙ at_more done (records_of v done) k low

same_rows : (v : Version) (done : List (List Rec)) → length (records_of v done) ≡ length v.rows
same_rows v done = length-map v.rows (record_of v.parents done)

first_node : (v : Version) (vs : List Version) (done : List (List Rec)) → AreParents (length done) v.parents
    → IsNode (recs (v ∷ vs) done) (length done) (node_of (record { records = length v.rows; parents = weights v.parents (records_of v done) done }))
first_node v vs done are =
    let count : ℕ = length done
    in let ours : List Rec = records_of v done
    in let edge : ℕ × ℕ = heaviest (weights v.parents ours done)
    in let here : get_or (recs (v ∷ vs) done) count [] ≡ ours =
    at_recs vs (done ++ ours ∷ []) count (omega (arith, longer done ours)) ∙ at_last done ours
    in let none : count ≡ 0 → edge ≡ (0, 0) = λ zero_. no_edge v.parents ours done (are.first zero_)
    in let one : 0 < count → IsEdge count ours done edge = λ some. some_edge count v.parents ours done (are.later some) are.there
    in let parent_low : edge.0 ≤ count =
    elim (cases_lt 0 count) [
      | inl some ↦ (one some).there
      | inr zero_ ↦ (let is : edge.0 ≡ 0 = ap (λ e. e.0) (none (omega (arith, zero_))) in omega (arith, is))
    ]
    in record {
      lower = parent_low;
      some = λ some. (one some).from_one;
      root = λ zero_. ap (λ e. e.1) (none zero_);
      records = sym (ap length here ∙ same_rows v done);
      shared = λ some.
          let known : of_version (recs (v ∷ vs) done) edge.0 ≡ of_version done edge.0 =
          at_recs (v ∷ vs) done (edge.0 - 1) (omega (arith, (one some).from_one, (one some).there))
          in (one some).shared ∙ (λ i. weight (sym here i) (sym known i));
    }

each_node : (vs : List Version) (done : List (List Rec)) (j : ℕ) → HaveParents (length done) vs → j < length vs → IsNode (recs vs done) (length done + j) (slice_index_or (reduced (graph_of vs done)) j no_node)
each_node [] done j have low = absurd (omega (arith, low))
each_node (v ∷ vs) done zero have low =
    let same : length done ≡ length done + 0 = omega arith
    in subst (λ k. IsNode (recs (v ∷ vs) done) k (node_of (record { records = length v.rows; parents = weights v.parents (records_of v done) done }))) same (first_node v vs done have.0)
each_node (v ∷ vs) done (suc j) have low =
    let ours : List Rec = records_of v done
    in let same : length (done ++ ours ∷ []) + j ≡ length done + suc j = omega (arith, longer done ours)
    in subst (λ k. IsNode (recs (v ∷ vs) done) k (slice_index_or (reduced (graph_of vs (done ++ ours ∷ []))) j no_node)) same
    (each_node vs (done ++ ours ∷ []) j (subst (λ n. HaveParents n vs) (sym (longer done ours)) have.1) (omega (arith, low)))

more_if : (t : Bool) (r : Rec) (rs : List Rec) → length (if t then r ∷ rs else rs) ≤ 1 + length rs
more_if true r rs = omega arith
more_if false r rs = omega arith

pub filter_most : (p : Rec → Bool) (rs : List Rec) → length (filter p rs) ≤ length rs
filter_most p [] = omega arith
filter_most p (r ∷ rs) = omega (arith, more_if (p r) r (filter p rs), filter_most p rs)

module _ (d : Dataset) (have : HaveParents 0 d.cvd.versions) where
  abbrev nodes : List Node
  nodes = nodes_of_set d

  abbrev tree : VersionTree
  tree = tree_of nodes

  abbrev done : List (List Rec)
  done = recs d.cvd.versions []

  pub node_is : (k : ℕ) → k < length d.cvd.versions → IsNode done k (slice_index_or nodes k no_node)
  node_is k low =
      let same : 0 + k ≡ k = omega arith
      in subst (λ n. IsNode done n (slice_index_or nodes k no_node)) same (each_node d.cvd.versions [] k have low)

  weight_most : (a b : List Rec) → weight a b ≤ length a
  weight_most a b = omega (arith, length-filter (is_among b) a, filter_most (is_among b) a)

  within_at : (k : ℕ) → k < length d.cvd.versions → (slice_index_or nodes k no_node).weight ≤ (slice_index_or nodes k no_node).records
  within_at k low =
      let is : IsNode done k (slice_index_or nodes k no_node) = node_is k low
      in elim (cases_lt 0 k) [
        | inl some ↦ omega (arith, is.shared some, is.records, weight_most (get_or done k []) (of_version done (slice_index_or nodes k no_node).parent))
        | inr zero_ ↦ omega (arith, is.root (omega (arith, zero_)))
      ]

  past_node : (k : ℕ) → length d.cvd.versions ≤ k → slice_index_or nodes k no_node ≡ no_node
  past_node k past = get_or_past nodes k no_node (omega (arith, nodes_long d, past))

  pub sound : IsSoundTree tree
  sound = record {
    lower = λ vid. elim (cases_lt (vid - 1) (length d.cvd.versions)) [
      | inl low ↦ (node_is (vid - 1) low).lower
      | inr past ↦ (let is = ap (λ n. n.parent) (past_node (vid - 1) past) in omega (arith, is))
    ];
    within = λ vid. elim (cases_lt (vid - 1) (length d.cvd.versions)) [
      | inl low ↦ within_at (vid - 1) low
      | inr past ↦ (let is = ap (λ n. n.weight) (past_node (vid - 1) past) in omega (arith, is))
    ];
  }

  -- all versions are a part
  vids_ascend : (low from count high : ℕ) → low < from → from + count ≤ suc high → Ascends low high (range_with_len from count)
  vids_ascend low from zero high lt le = tt
  vids_ascend low from (suc count) high lt le = (lt, omega (arith, le), vids_ascend from (from + 1) count high (omega arith) (omega (arith, le)))

  parents_of : (from count : ℕ) → 2 ≤ from → from + count ≤ suc (length d.cvd.versions) → HasParents tree (vids (length d.cvd.versions)) (range_with_len from count)
  parents_of from zero two le = tt
  parents_of from (suc count) two le =
      let is : IsNode done (from - 1) (slice_index_or nodes (from - 1) no_node) = node_is (from - 1) (omega (arith, two, le))
      in (
        has-vid 1 (length d.cvd.versions) (tree.parent from) (is.some (omega (arith, two))) (omega (arith, is.lower, two, le)),
        parents_of (from + 1) count (omega (arith, two)) (omega (arith, le)),
      )

  edges_of : (count : ℕ) → 0 < count → edges (vids count) ≡ range_with_len 2 (count - 1)
  edges_of zero lt = absurd (omega (arith, lt))
  edges_of (suc count) lt = let e : count ≡ suc count - 1 = omega arith in ap (range_with_len 2) e

  pub whole_part : 0 < length d.cvd.versions → IsPart tree (length d.cvd.versions) (vids (length d.cvd.versions))
  whole_part filled = record {
    some = omega (arith, length-range_with_len 1 (length d.cvd.versions), filled);
    ascends = vids_ascend 0 1 (length d.cvd.versions) (length d.cvd.versions) (omega arith) (omega arith);
    connected = subst (HasParents tree (vids (length d.cvd.versions))) (sym (edges_of (length d.cvd.versions) filled)) (parents_of 2 (length d.cvd.versions - 1) (omega arith) (omega (arith, filled)));
  }
