-- What is next, by the least of all edges that may be cut.
use Rattle.std.proofs.Common.{◌≡◌, ℕ, ◌≤◌, true, false, Option, Some, None, List, sym, ◌∙◌, ap, arith}
use Rattle.ov_graph.specs.Trees.{VersionTree}
use Rattle.ov_graph.specs.Splits.{IsPart, IsLeast, stops, next_cut_of, versions_apart, records_apart}
use Rattle.ov_lyre.proofs.UnderFacts.{IsSoundTree}
use Rattle.ov_lyre.proofs.EdgeFacts.{CutAt, NextCut, none, some, next-cut}

-- two edges, each the least of both
one-least : (tree : VersionTree) (part : List ℕ) (a b : ℕ) → IsLeast tree part a b → IsLeast tree part b a → a ≡ b
one-least tree part a b ab ba =
    let v = ab.versions in
    let v' = ba.versions in
    let versions : versions_apart tree part a ≡ versions_apart tree part b = omega arith in
    let r = ab.records versions in
    let r' = ba.records (sym versions) in
    let apart : records_apart tree part a ≡ records_apart tree part b = omega arith in
    let x = ab.vids versions apart in
    let y = ba.vids (sym versions) (sym apart) in
    omega arith

module _ (tree : VersionTree) (sound : IsSoundTree tree) (q count : ℕ) (part : List ℕ) (is : IsPart tree count part) where
  is-next : (p : ℕ) (le : p ≤ q) (vid : ℕ) → stops tree p q part ≡ false → CutAt tree p q part vid → (o : Option ℕ) → NextCut tree sound p q le count part o → o ≡ Some vid
  is-next p le vid goes_on at None (none stop) = let h : false ≡ true = sym goes_on ∙ stop in cc
  is-next p le vid goes_on at (Some other) (some on found) = ap Some (one-least tree part other vid (found.least vid at.inside at.light) (at.least other found.inside found.light))

  -- the least edge of a part that doesn't stop is next
  pub least-is-next : (p : ℕ) (le : p ≤ q) (vid : ℕ) → stops tree p q part ≡ false → CutAt tree p q part vid → next_cut_of tree p q part ≡ Some vid
  least-is-next p le vid goes_on at = is-next p le vid goes_on at (next_cut_of tree p q part) (next-cut tree sound p q le count part is)
