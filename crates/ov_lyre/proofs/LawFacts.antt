-- The laws of splits, and what holds of the split of a whole tree.
use Rattle.std.proofs.Common.{◌≡◌, ℕ, zero, suc, ◌+◌, ◌-◌, ◌*◌, ◌<◌, ◌≤◌, false, Result, Ok, Err, Option, Some, None, List, [], ◌∷◌, length, refl, sym, ◌∙◌, subst, inl, inr, arith}
use Rattle.std.specs.Prelude.{Vec}
use Rattle.std.specs.declared.alloc.Global.{Global}
use Rattle.std.specs.Result.{IfOk}
use Rattle.std.specs.List.{All, sum_by, range_with_len}
use Rattle.std.specs.List.Sorted.{IsPermutation}
use Rattle.std.proofs.lemmas.Bool.{cases_eq}
use Rattle.std.proofs.lemmas.List.Elements.{All-nil, All-cons}
use Rattle.std.proofs.lemmas.List.FromFn.{length-range_with_len}
use Rattle.std.proofs.lemmas.List.Sums.{sum_by-cons}
use Rattle.std.proofs.lemmas.List.Sorted.{sum_by-IsPermutation, IsPermutation-map}
use Rattle.ov_graph.specs.declared.nodes.Node.{Node}
use Rattle.ov_graph.specs.Trees.{VersionTree, IsSound, tree_of, vids, total, fresh, all_records, all_members}
use Rattle.ov_graph.specs.Splits.{Ascends, Has, HasParents, IsPart, edges, records, stops, chosen, IsChosen, HasSplitLaws, first_of, cuts_of, leaves, cut_vids, depth, stored, cost, sizes, AreBounded}
use Rattle.ov_lyre.specs.Parts.{lists_of}
use Rattle.ov_lyre.proofs.UnderFacts.{IsSoundTree}
use Rattle.ov_lyre.proofs.NodeFacts.{sound-tree}
use Rattle.ov_lyre.proofs.CutFacts.{sides}
use Rattle.ov_lyre.proofs.EdgeFacts.{NextCut, next-of, chosen-cut}
use Rattle.ov_lyre.proofs.EdgeFacts.NextCut.{none, some}
use Rattle.ov_lyre.proofs.CutsFacts.{AreParts, AreVids, split-bounded, split-sound}

module _ (tree : VersionTree) (sound : IsSoundTree tree) (p q : ℕ) (p_up_to_q : p ≤ q) (count : ℕ) where
  an-edge : (part : List ℕ) (o : Option ℕ) → chosen tree p q part ≡ o → stops tree p q part ≡ false → NextCut tree sound p q p_up_to_q count part o → (vid : ℕ) × IsChosen tree p q part vid
  an-edge part None e goes_on (none stop) = absurd cc
  an-edge part (Some vid) e goes_on (some _ at) = (vid, record { is = e; inside = at.inside; light = at.light })

  pub split-laws : HasSplitLaws tree count p q
  split-laws = record {
    an_edge_may_be_cut = λ part is goes_on. an-edge part (chosen tree p q part) refl goes_on (next-of tree sound p q p_up_to_q count part is goes_on (chosen tree p q part) refl);
    the_least_is_cut = λ part vid other is e has light. (chosen-cut tree sound p q p_up_to_q count part vid is e).least other has light;
    records_at_a_cut = λ part vid is has. (sides tree sound count part vid is has).record_sum;
  }

-- all versions are a part
vids-ascend : (low from count high : ℕ) → low < from → from + count ≤ suc high → Ascends low high (range_with_len from count)
vids-ascend low from zero high lt le = tt
vids-ascend low from (suc count) high lt le = (lt, omega arith, vids-ascend from (from + 1) count high (omega arith) (omega arith))

pub has-vid : (from count vid : ℕ) → from ≤ vid → vid < from + count → Has (range_with_len from count) vid
has-vid from zero vid le lt = absurd (omega arith)
has-vid from (suc count) vid le lt = elim (cases_eq from vid) [ inl same ↦ inl same | inr other ↦ inr (has-vid (from + 1) count vid (omega arith) (omega arith)) ]

parents-of : (nodes : List Node) → IsSound nodes → (from count : ℕ) → 2 ≤ from → from + count ≤ suc (length nodes) → HasParents (tree_of nodes) (vids (length nodes)) (range_with_len from count)
parents-of nodes sound from zero two le = tt
parents-of nodes sound from (suc count) two le =
    let edge = sound.edges (from - 1) (omega arith) (omega arith) in
    let one = edge.from_one in
    let below = edge.below in
    (has-vid 1 (length nodes) ((tree_of nodes).parent from) one (omega arith), parents-of nodes sound (from + 1) count (omega arith) (omega arith))

edges-of-vids : (count : ℕ) → 0 < count → edges (vids count) ≡ range_with_len 2 (count - 1)
edges-of-vids zero lt = absurd (omega arith)
edges-of-vids (suc count) lt = let e : suc count - 1 ≡ count = omega arith in rw e refl

pub vids-IsPart : (nodes : List Node) → IsSound nodes → 0 < length nodes → IsPart (tree_of nodes) (length nodes) (vids (length nodes))
vids-IsPart nodes sound filled = record {
  some = rw (length-range_with_len 1 (length nodes)) filled;
  ascends = vids-ascend 0 1 (length nodes) (length nodes) (omega arith) (omega arith);
  connected = rw (edges-of-vids (length nodes) filled) (parents-of nodes sound 2 (length nodes - 1) (omega arith) (omega arith));
}

-- R of the whole is T, since the first version has no weight
whole-records : (nodes : List Node) → IsSound nodes → (count : ℕ) → 0 < count → records (tree_of nodes) (vids count) ≡ total (fresh (tree_of nodes)) (vids count)
whole-records nodes sound zero lt = absurd (omega arith)
whole-records nodes sound (suc count) lt = let w = sound.root_weight in omega arith

-- sums over parts, in any order
stored-sum : (tree : VersionTree) (parts : List (List ℕ)) → stored (sizes tree parts) ≡ sum_by (records tree) parts
stored-sum tree [] = refl
stored-sum tree (part ∷ parts) = let rest = stored-sum tree parts in rw (sum_by-cons (records tree) part parts) (omega arith)

cost-sum : (tree : VersionTree) (parts : List (List ℕ)) → cost (sizes tree parts) ≡ sum_by (λ part. length part * records tree part) parts
cost-sum tree [] = refl
cost-sum tree (part ∷ parts) = let rest = cost-sum tree parts in rw (sum_by-cons (λ part. length part * records tree part) part parts) (omega arith)

moved-bounds : (tree : VersionTree) (p q deep t e : ℕ) (xs ys : List (List ℕ)) → IsPermutation xs ys → AreBounded p q deep t e (sizes tree xs) → AreBounded p q deep t e (sizes tree ys)
moved-bounds tree p q deep t e xs ys moved bounded =
    let same_stored : stored (sizes tree ys) ≡ stored (sizes tree xs) = stored-sum tree ys ∙ sum_by-IsPermutation (records tree) xs ys moved ∙ sym (stored-sum tree xs) in
    let same_cost : cost (sizes tree ys) ≡ cost (sizes tree xs) = cost-sum tree ys ∙ sum_by-IsPermutation (λ part. length part * records tree part) xs ys moved ∙ sym (cost-sum tree xs) in
    record { stored_bound = rw same_stored bounded.stored_bound; cost_bound = rw same_cost bounded.cost_bound }

part-keys : (tree : VersionTree) (count : ℕ) (parts : List (Vec ℕ Global)) → AreParts tree count (lists_of parts) → All (λ part. (1 ≤ first_of part.items) × (first_of part.items < 1 + count)) parts
part-keys tree count [] are = All-nil (λ (part : Vec ℕ Global). (1 ≤ first_of part.items) × (first_of part.items < 1 + count))
part-keys tree count (part ∷ parts) are =
    All-cons (λ (part : Vec ℕ Global). (1 ≤ first_of part.items) × (first_of part.items < 1 + count)) part parts (first part.items are.0) (part-keys tree count parts are.1)
  where
    first : (xs : List ℕ) → IsPart tree count xs → (1 ≤ first_of xs) × (first_of xs < 1 + count)
    first [] is = let longer = is.some in absurd (omega arith)
    first (x ∷ xs) is = let up = is.ascends in (omega arith, omega arith)

vid-keys : (count : ℕ) (xs : List ℕ) → AreVids count xs → All (λ vid. (1 ≤ vid) × (vid < 1 + count)) xs
vid-keys count [] are = All-nil (λ vid. (1 ≤ vid) × (vid < 1 + count))
vid-keys count (x ∷ xs) are = All-cons (λ vid. (1 ≤ vid) × (vid < 1 + count)) x xs (are.0, omega arith) (vid-keys count xs are.2)

-- what the sorted split of a whole tree is
module _ (nodes : List Node) (sound : IsSound nodes) (filled : 0 < length nodes) (p q : ℕ) (p_up_to_q : p ≤ q) where
  abbrev tree : VersionTree
  tree = tree_of nodes

  abbrev all : List ℕ
  all = vids (length nodes)

  pub found-keys : (parts : List (Vec ℕ Global)) → lists_of parts ≡ leaves (cuts_of tree p q all) → All (λ part. (1 ≤ first_of part.items) × (first_of part.items < 1 + length nodes)) parts
  found-keys parts is =
      let P : List (List ℕ) → Type 0 = AreParts tree (length nodes) in
      part-keys tree (length nodes) parts (subst P (sym is) (split-sound tree (sound-tree nodes sound) p q p_up_to_q (length nodes) all (vids-IsPart nodes sound filled)).parts)

  pub found-vids : (cuts : List ℕ) → cuts ≡ cut_vids (cuts_of tree p q all) → All (λ vid. (1 ≤ vid) × (vid < 1 + length nodes)) cuts
  found-vids cuts is =
      let P : List ℕ → Type 0 = AreVids (length nodes) in
      vid-keys (length nodes) cuts (subst P (sym is) (split-sound tree (sound-tree nodes sound) p q p_up_to_q (length nodes) all (vids-IsPart nodes sound filled)).vids)

  pub found-bounds : (xs ys : List (Vec ℕ Global)) (deep : ℕ) → lists_of xs ≡ leaves (cuts_of tree p q all) → deep ≡ depth (cuts_of tree p q all) → IsPermutation xs ys → AreBounded p q deep (all_records nodes) (all_members nodes) (sizes tree (lists_of ys))
  found-bounds xs ys deep is deep_is moved =
      let bounds = split-bounded tree (sound-tree nodes sound) p q p_up_to_q (length nodes) all (vids-IsPart nodes sound filled) in
      let P : List (List ℕ) → Type 0 = λ parts. AreBounded p q deep (all_records nodes) (all_members nodes) (sizes tree parts) in
      moved-bounds tree p q deep (all_records nodes) (all_members nodes) (lists_of xs) (lists_of ys) (IsPermutation-map (λ (part : Vec ℕ Global). part.items) xs ys moved)
      (subst P (sym is) (rw (deep_is, sym (whole-records nodes sound (length nodes) filled)) bounds))

-- two clauses of a success
pub both-ok : {T E : Type 0} (r : Result T E) (P Q R : T → Type 0) → ((x : T) → P x → Q x → R x) → IfOk r P → IfOk r Q → IfOk r R
both-ok (Ok x) P Q R f one two = f x one two
both-ok (Err e) P Q R f one two = tt
