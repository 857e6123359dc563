-- Splits of parts: what holds of every cut holds of every split.
use Rattle.std.proofs.Common.{◌≡◌, ℕ, zero, suc, max, ◌+◌, ◌*◌, ◌^◌, ◌<◌, ◌≤◌, true, Option, Some, None, List, [], ◌∷◌, ◌++◌, length, refl, sym, ◌∙◌, ap, arith}
use Rattle.std.proofs.lemmas.Bool.{leb-true}
use Rattle.std.proofs.Math.Nat.{mul-add, mul_assoc, mul_comm, pow-zero}
use Rattle.ov_graph.specs.Trees.{VersionTree}
use Rattle.ov_graph.specs.Splits.{Has, IsPart, edges, records, members, stops, may_cut, lower, upper, next_cut_of, Cuts, cuts_within, cuts_of, leaves, cut_vids, depth, stored, cost, sizes, AreBounded}
use Rattle.ov_graph.specs.Splits.Cuts.{whole, cut}
use Rattle.ov_lyre.proofs.PartFacts.{lies}
use Rattle.ov_lyre.proofs.UnderFacts.{IsSoundTree}
use Rattle.ov_lyre.proofs.CutFacts.{sides}
use Rattle.ov_lyre.proofs.EdgeFacts.{CutAt, NextCut, next-cut}
use Rattle.ov_lyre.proofs.EdgeFacts.NextCut.{none, some}
use Rattle.ov_lyre.proofs.BoundFacts.{raised_to, joined}

module _ (tree : VersionTree) (p q : ℕ) where
  within-whole : (levels : ℕ) (part : List ℕ) → next_cut_of tree p q part ≡ None → cuts_within levels tree p q part ≡ whole part
  unfolding cuts_within
  within-whole zero part e = refl
  within-whole (suc levels) part e = rw (e, cuts_within) refl

  within-cut : (levels : ℕ) (part : List ℕ) (vid : ℕ) → next_cut_of tree p q part ≡ Some vid → cuts_within (suc levels) tree p q part ≡ cut vid (cuts_within levels tree p q (upper tree vid part)) (cuts_within levels tree p q (lower tree vid part))
  unfolding cuts_within
  within-cut levels part vid e = rw (e, cuts_within) refl

-- each side of a cut is shorter
pub record Shorter (tree : VersionTree) (part : List ℕ) (vid : ℕ) : Type 0 where
  pub above : length (upper tree vid part) < length part
  pub below : length (lower tree vid part) < length part

module _ (tree : VersionTree) (sound : IsSoundTree tree) (p q : ℕ) (p_up_to_q : p ≤ q) (count : ℕ) where
  pub shorter : (part : List ℕ) (vid : ℕ) → IsPart tree count part → Has (edges part) vid → Shorter tree part vid
  shorter part vid is has =
      let two = sides tree sound count part vid is has in
      let sum = two.lengths in
      let a = two.upper_part.some in
      let b = two.lower_part.some in
      record { above = omega arith; below = omega arith }

  -- what holds at each part that stops, and at each cut where it holds at both sides, holds of each split
  module _ (P : List ℕ → Cuts → Type 0) (on_stop : (part : List ℕ) → IsPart tree count part → stops tree p q part ≡ true → next_cut_of tree p q part ≡ None → P part (whole part)) (on_cut : (part : List ℕ) (vid : ℕ) (above below : Cuts) → IsPart tree count part → CutAt tree p q part vid → next_cut_of tree p q part ≡ Some vid → P (upper tree vid part) above → P (lower tree vid part) below → P part (cut vid above below)) where
    split-step : (levels : ℕ) → ((side : List ℕ) → IsPart tree count side → length side ≤ levels → P side (cuts_within levels tree p q side)) → (part : List ℕ) → IsPart tree count part → length part ≤ suc levels → (o : Option ℕ) → next_cut_of tree p q part ≡ o → NextCut tree sound p q p_up_to_q count part o → P part (cuts_within (suc levels) tree p q part)
    split-step levels rest part is le None e (none stop) = rw (within-whole tree p q (suc levels) part e) (on_stop part is stop e)
    split-step levels rest part is le (Some vid) e (some goes_on at) =
        let two = sides tree sound count part vid is at.inside in
        let short = shorter part vid is at.inside in
        let a = short.above in
        let b = short.below in
        rw (within-cut tree p q levels part vid e) (on_cut part vid (cuts_within levels tree p q (upper tree vid part)) (cuts_within levels tree p q (lower tree vid part)) is at e (rest (upper tree vid part) two.upper_part (omega arith)) (rest (lower tree vid part) two.lower_part (omega arith)))

    pub split-induct : (levels : ℕ) (part : List ℕ) → IsPart tree count part → length part ≤ levels → P part (cuts_within levels tree p q part)
    split-induct zero part is le = let pos = is.some in absurd (omega arith)
    split-induct (suc levels) part is le = split-step levels (split-induct levels) part is le (next_cut_of tree p q part) refl (next-cut tree sound p q p_up_to_q count part is)

    pub split-all : (part : List ℕ) → IsPart tree count part → P part (cuts_of tree p q part)
    unfolding cuts_of
    split-all part is = split-induct (length part) part is (omega arith)

  -- more levels than versions change nothing
  abbrev IsFixed : List ℕ → Cuts → Type 0
  IsFixed part cuts = (levels : ℕ) → length part ≤ levels → cuts_within levels tree p q part ≡ cuts

  fixed-cut : (part : List ℕ) (vid : ℕ) (above below : Cuts) → IsPart tree count part → CutAt tree p q part vid → next_cut_of tree p q part ≡ Some vid → IsFixed (upper tree vid part) above → IsFixed (lower tree vid part) below → (levels : ℕ) → length part ≤ levels → cuts_within levels tree p q part ≡ cut vid above below
  fixed-cut part vid above below is at e one two zero le = let pos = is.some in absurd (omega arith)
  fixed-cut part vid above below is at e one two (suc levels) le =
      let short = shorter part vid is at.inside in
      let a = short.above in
      let b = short.below in
      within-cut tree p q levels part vid e ∙ rw (one levels (omega arith), two levels (omega arith)) refl

  fixed : (part : List ℕ) → IsPart tree count part → (levels : ℕ) → length part ≤ levels → cuts_within levels tree p q part ≡ cuts_of tree p q part
  fixed = split-all IsFixed
      (λ part is stop e levels le. within-whole tree p q levels part e)
      (λ part vid above below is at e one two levels le. fixed-cut part vid above below is at e one two levels le)

  pub cuts_of-whole : (part : List ℕ) → next_cut_of tree p q part ≡ None → cuts_of tree p q part ≡ whole part
  unfolding cuts_of
  cuts_of-whole part e = within-whole tree p q (length part) part e

  pub cuts_of-cut : (part : List ℕ) (vid : ℕ) → IsPart tree count part → Has (edges part) vid → next_cut_of tree p q part ≡ Some vid → cuts_of tree p q part ≡ cut vid (cuts_of tree p q (upper tree vid part)) (cuts_of tree p q (lower tree vid part))
  cuts_of-cut part vid is has e =
      let two = sides tree sound count part vid is has in
      let short = shorter part vid is has in
      let a = short.above in
      let b = short.below in
      sym (fixed part is (suc (length part)) (omega arith)) ∙ within-cut tree p q (length part) part vid e
      ∙ rw (fixed (upper tree vid part) two.upper_part (length part) (omega arith), fixed (lower tree vid part) two.lower_part (length part) (omega arith)) refl

stored-append : (tree : VersionTree) (xs ys : List (List ℕ)) → stored (sizes tree (xs ++ ys)) ≡ stored (sizes tree xs) + stored (sizes tree ys)
stored-append tree [] ys = omega arith
stored-append tree (x ∷ xs) ys = let rest = stored-append tree xs ys in omega arith

cost-append : (tree : VersionTree) (xs ys : List (List ℕ)) → cost (sizes tree (xs ++ ys)) ≡ cost (sizes tree xs) + cost (sizes tree ys)
cost-append tree [] ys = omega arith
cost-append tree (x ∷ xs) ys = let rest = cost-append tree xs ys in omega arith

module _ (tree : VersionTree) (sound : IsSoundTree tree) (p q : ℕ) (p_up_to_q : p ≤ q) (count : ℕ) where
  abbrev IsWithin : List ℕ → Cuts → Type 0
  IsWithin part cuts = AreBounded p q (depth cuts) (records tree part) (members tree part) (sizes tree (leaves cuts))

  within-stop : (part : List ℕ) → stops tree p q part ≡ true → IsWithin part (whole part)
  unfolding stops
  within-stop part stop =
      let r = records tree part in
      let n = length part in
      let h = leb-true (p * r * n) (q * members tree part) stop in
      let e : p * (n * r) ≡ p * r * n = ap (λ m. p * m) (mul_comm n r) ∙ sym (mul_assoc p r n) in
      let one : q ^ 0 * (r + 0) ≤ (p + q) ^ 0 * r = rw (pow-zero q, pow-zero (p + q)) (omega arith) in
      record { stored_bound = one; cost_bound = (let z : n * r + 0 ≡ n * r = omega arith in rw (z, e) h) }

  within-sides : (part : List ℕ) (vid : ℕ) (above below : Cuts) → IsPart tree count part → CutAt tree p q part vid → IsWithin (upper tree vid part) above → IsWithin (lower tree vid part) below → IsWithin part (cut vid above below)
  unfolding may_cut
  within-sides part vid above below is at one two =
      let parts = sides tree sound count part vid is at.inside in
      let light = leb-true (q * tree.weight vid) (p * records tree part) at.light in
      let deep = max (depth above) (depth below) in
      let s1 = stored (sizes tree (leaves above)) in
      let s2 = stored (sizes tree (leaves below)) in
      let r1 = records tree (upper tree vid part) in
      let r2 = records tree (lower tree vid part) in
      let first = raised_to q (p + q) (depth above) deep s1 r1 (omega arith) (omega arith) one.stored_bound in
      let second = raised_to q (p + q) (depth below) deep s2 r2 (omega arith) (omega arith) two.stored_bound in
      let costs = cost-append tree (leaves above) (leaves below) in
      let c1 = one.cost_bound in
      let c2 = two.cost_bound in
      let e = parts.member_sum in
      record {
        stored_bound = rw (stored-append tree (leaves above) (leaves below)) (joined p q deep s1 s2 r1 r2 (records tree part) (tree.weight vid) parts.record_sum light first second);
        cost_bound = rw (costs, mul-add p (cost (sizes tree (leaves above))) (cost (sizes tree (leaves below))), sym e, mul-add q (members tree (upper tree vid part)) (members tree (lower tree vid part))) (omega arith);
      }

  -- the parts of a split meet the bounds
  pub split-bounded : (part : List ℕ) → IsPart tree count part → AreBounded p q (depth (cuts_of tree p q part)) (records tree part) (members tree part) (sizes tree (leaves (cuts_of tree p q part)))
  split-bounded = split-all tree sound p q p_up_to_q count IsWithin (λ part is stop e. within-stop part stop) (λ part vid above below is at e one two. within-sides part vid above below is at one two)

-- every part of a split is a part
abbrev pub AreParts : VersionTree → ℕ → List (List ℕ) → Type 0
AreParts tree count [] = Unit {0}
AreParts tree count (part ∷ parts) = IsPart tree count part × AreParts tree count parts

AreParts-append : (tree : VersionTree) (count : ℕ) (xs ys : List (List ℕ)) → AreParts tree count xs → AreParts tree count ys → AreParts tree count (xs ++ ys)
AreParts-append tree count [] ys one two = two
AreParts-append tree count (x ∷ xs) ys one two = (one.0, AreParts-append tree count xs ys one.1 two)

-- the vids of an ascending list are from 1 to count
abbrev pub AreVids : ℕ → List ℕ → Type 0
AreVids count [] = Unit {0}
AreVids count (vid ∷ vids) = (1 ≤ vid) × (vid ≤ count) × AreVids count vids

AreVids-append : (count : ℕ) (xs ys : List ℕ) → AreVids count xs → AreVids count ys → AreVids count (xs ++ ys)
AreVids-append count [] ys one two = two
AreVids-append count (x ∷ xs) ys one two = (one.0, one.1, AreVids-append count xs ys one.2 two)

module _ (tree : VersionTree) (sound : IsSoundTree tree) (p q : ℕ) (p_up_to_q : p ≤ q) (count : ℕ) where
  pub record AreSound (part : List ℕ) (cuts : Cuts) : Type 0 where
    pub parts : AreParts tree count (leaves cuts)
    pub vids : AreVids count (cut_vids cuts)

  sound-cut : (part : List ℕ) (vid : ℕ) (above below : Cuts) → IsPart tree count part → CutAt tree p q part vid → AreSound (upper tree vid part) above → AreSound (lower tree vid part) below → AreSound part (cut vid above below)
  sound-cut [] vid above below is at one two = absurd at.inside
  sound-cut (top ∷ rest) vid above below is at one two =
      let up = is.ascends in
      let at_vid = lies top count rest vid up.2 at.inside in
      let low = at_vid.above in
      record {
        parts = AreParts-append tree count (leaves above) (leaves below) one.parts two.parts;
        vids = (omega arith, at_vid.within, AreVids-append count (cut_vids above) (cut_vids below) one.vids two.vids);
      }

  pub split-sound : (part : List ℕ) → IsPart tree count part → AreSound part (cuts_of tree p q part)
  split-sound = split-all tree sound p q p_up_to_q count AreSound (λ part is stop e. record { parts = (is, tt); vids = tt }) (λ part vid above below is at e one two. sound-cut part vid above below is at one two)
