-- A part has at least the records of each of its versions, so what is above an edge has its weight.
use Rattle.std.proofs.Common.{◌≡◌, ℕ, zero, suc, ◌+◌, ◌-◌, ◌<◌, ◌≤◌, not, List, [], ◌∷◌, length, sym, ap, inl, inr, arith}
use Rattle.ov_graph.specs.declared.nodes.Node.{Node}
use Rattle.ov_graph.specs.Trees.{VersionTree, IsSound, tree_of, total, fresh}
use Rattle.ov_graph.specs.Splits.{Has, IsPart, edges, is_under, lower, upper, records}
use Rattle.ov_lyre.proofs.PartFacts.{lies, has-filter, parents-has}
use Rattle.ov_lyre.proofs.UnderFacts.{IsSoundTree, under-smaller}
use Rattle.ov_lyre.proofs.CutFacts.{sides}

-- an edge weighs no more than the records of the tree parent
abbrev pub AreWithinParents : VersionTree → ℕ → Type 0
AreWithinParents tree count = (vid : ℕ) → 1 < vid → vid ≤ count → tree.weight vid ≤ tree.records (tree.parent vid)

pub within-parents : (nodes : List Node) → IsSound nodes → AreWithinParents (tree_of nodes) (length nodes)
within-parents nodes sound zero more le = absurd (omega arith)
within-parents nodes sound (suc k) more le = let back : suc k - 1 ≡ k = omega arith in rw back (sound.edges k (omega arith) (omega arith)).within_parent

module _ (tree : VersionTree) (sound : IsSoundTree tree) (count : ℕ) (within : AreWithinParents tree count) where
  -- the tree parent of an edge stays above its cut
  parent-above : (part : List ℕ) (vid : ℕ) → IsPart tree count part → Has (edges part) vid → Has (upper tree vid part) (tree.parent vid)
  parent-above [] vid is has = absurd has
  parent-above (top ∷ rest) vid is has =
      let first = is.ascends.0 in
      let above = (lies top count rest vid is.ascends.2 has).above in
      let low = sound.lower vid in
      has-filter (λ version. not (is_under tree vid version)) (top ∷ rest) (tree.parent vid) (parents-has tree (top ∷ rest) rest vid is.connected has) (ap not (under-smaller tree sound vid (tree.parent vid) (omega arith)))

  pub has-records : (most : ℕ) (part : List ℕ) (vid : ℕ) → length part ≤ most → IsPart tree count part → Has part vid → tree.records vid ≤ records tree part
  has-records most [] vid short is has = absurd has
  has-records most (top ∷ rest) vid short is (inl same) = rw (sym same) (omega arith)
  has-records zero (top ∷ rest) vid short is (inr has) = absurd (omega arith)
  has-records (suc most) (top ∷ rest) vid short is (inr has) =
      let two = sides tree sound count (top ∷ rest) vid is has in
      let long = two.lengths in
      let some = two.lower_part.some in
      let sum = two.record_sum in
      let first = is.ascends.0 in
      let lie = lies top count rest vid is.ascends.2 has in
      let above = lie.above in
      let held = has-records most (upper tree vid (top ∷ rest)) (tree.parent vid) (omega arith) two.upper_part (parent-above (top ∷ rest) vid is has) in
      let weighs = within vid (omega arith) lie.within in
      let own : records tree (lower tree vid (top ∷ rest)) ≡ tree.records vid + total (fresh tree) two.behind = ap (records tree) two.lower_first in
      omega arith

  pub weight-within : (part : List ℕ) (vid : ℕ) → IsPart tree count part → Has (edges part) vid → tree.weight vid ≤ records tree (upper tree vid part)
  weight-within [] vid is has = absurd has
  weight-within (top ∷ rest) vid is has =
      let two = sides tree sound count (top ∷ rest) vid is has in
      let first = is.ascends.0 in
      let lie = lies top count rest vid is.ascends.2 has in
      let above = lie.above in
      let held = has-records (length (upper tree vid (top ∷ rest))) (upper tree vid (top ∷ rest)) (tree.parent vid) (omega arith) two.upper_part (parent-above (top ∷ rest) vid is has) in
      let weighs = within vid (omega arith) lie.within in
      omega arith
