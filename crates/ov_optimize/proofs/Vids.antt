-- The versions of parts of a split and of partitions.
use Rattle.std.proofs.Common.{◌≡◌, ◌<◌, ◌≤◌, ℕ, zero, suc, ◌+◌, ◌-◌, Bool, true, false, ◌||◌, ◌==◌, List, [], ◌∷◌, length, map, refl, sym, ◌∙◌, ap, subst, inl, inr, arith}
use Rattle.std.specs.List.{AllZip}
use Rattle.std.proofs.lemmas.Bool.{eqb-true, or_cases}
use Rattle.ov_layout.specs.declared.part.Part.{Part}
use Rattle.ov_layout.specs.Changes.{IsAbove, IsNew}
use Rattle.ov_layout.specs.Parts.{ArePartsFrom, Ascend, has, is_placed}
use Rattle.ov_member.proofs.RidLemmas.{has-head}
use Rattle.ov_model.specs.Lists.{IsIn}
use Rattle.ov_catalog.specs.Sets.{part_in}
use Rattle.ov_catalog.specs.Splitting.{IsListed}
use Rattle.ov_match.specs.Matching.{NumbersAscend}
use Rattle.ov_targets.specs.declared.candidates.Partition.{Partition}
use Rattle.ov_targets.specs.Targets.{AreVids, candidate_in}
use Rattle.ov_optimize.specs.Reading.{IsPartitionOf}
use Rattle.ov_optimize.proofs.RidSets.{or_right}

pub vids_are : (count : ℕ) (vids : List ℕ) → ((vid : ℕ) → has vids vid ≡ true → (1 ≤ vid) × (vid ≤ count)) → AreVids count vids
vids_are count [] there = tt
vids_are count (vid ∷ vids) there = (there vid (has-head vid vids), vids_are count vids (λ n e. there n (or_right (vid == n) (has vids n) e)))

-- ---- a part of a split

from_least : (least : ℕ) (vids : List ℕ) (vid : ℕ) → Ascend least vids → has vids vid ≡ true → least ≤ vid
from_least least [] vid up is = absurd cc
from_least least (v ∷ vids) vid up is = elim (or_cases (v == vid) (has vids vid) is) [
  | inl here ↦ omega (arith, up.0, eqb-true v vid here)
  | inr later ↦ omega (arith, up.0, from_least (suc v) vids vid up.1 later)
]

pub part_vids : (count : ℕ) (part : List ℕ) → IsListed count part → AreVids count part
part_vids count part is = vids_are count part (λ vid e. (from_least 1 part vid is.ascend e, is.there vid e))

short_from : (count least : ℕ) (part : List ℕ) → Ascend least part → ((vid : ℕ) → has part vid ≡ true → vid ≤ count) → length part ≤ (count + 1) - least
short_from count least [] up there = omega arith
short_from count least (vid ∷ part) up there =
    omega (
      arith,
      up.0,
      there vid (has-head vid part),
      short_from count (suc vid) part up.1 (λ n e. there n (or_right (vid == n) (has part n) e)),
    )

pub part_short : (count : ℕ) (part : List ℕ) → IsListed count part → length part ≤ count
part_short count part is = omega (arith, short_from count 1 part is.ascend is.there)

-- ---- partitions

below_new : (limit : ℕ) (vids : List ℕ) (vid : ℕ) → IsAbove limit vids → has vids vid ≡ true → vid < limit
below_new limit [] vid above is = absurd cc
below_new limit (v ∷ vids) vid above is = elim (or_cases (v == vid) (has vids vid) is) [
  | inl here ↦ omega (arith, above.0, eqb-true v vid here)
  | inr later ↦ below_new limit vids vid above.1 later
]

or_none : (a b : Bool) → (a || b) ≡ false → (a ≡ false) × (b ≡ false)
or_none true b e = absurd cc
or_none false b e = (refl, e)

some_vid : (vids : List ℕ) (vid : ℕ) → has vids 0 ≡ false → has vids vid ≡ true → 1 ≤ vid
some_vid vids zero none is = absurd cc
some_vid vids (suc vid) none is = omega arith

-- each partition has versions that are there
pub parts_there : (count least next : ℕ) (parts : List Part) (part : Part) → ArePartsFrom least next parts → IsNew (count + 1) parts → is_placed parts 0 ≡ false → IsIn parts part
    → (vid : ℕ) → has part.versions vid ≡ true → (1 ≤ vid) × (vid ≤ count)
parts_there count least next [] part sound new none is vid there = absurd is
parts_there count least next (p ∷ parts) part sound new none (inl same) vid there =
    let own : has p.versions vid ≡ true = ap (λ (x : Part). has x.versions vid) (sym same) ∙ there in (
      some_vid p.versions vid (or_none (has p.versions 0) (is_placed parts 0) none).0 own,
      omega (arith, below_new (count + 1) p.holds vid new.0 (sound.1.held vid own)),
    )
parts_there count least next (p ∷ parts) part sound new none (inr later) vid there =
    parts_there count (suc p.id) next parts part sound.2 new.1 (or_none (has p.versions 0) (is_placed parts 0) none).1 later vid there

-- ---- partitions as they are read

pub ids_ascend : (records low next : ℕ) (parts : List Part) (partitions : List Partition) → ArePartsFrom (suc low) next parts
    → AllZip (IsPartitionOf records) (map part_in parts) partitions → NumbersAscend low (map candidate_in partitions)
ids_ascend records low next [] [] sound are = tt
ids_ascend records low next [] (r ∷ rs) sound are = absurd are
ids_ascend records low next (p ∷ parts) [] sound are = absurd are
ids_ascend records low next (p ∷ parts) (r ∷ rs) sound are =
    let above : low < r.id = omega (arith, sound.0, are.0.id) in
    (above, subst (λ n. NumbersAscend n (map candidate_in rs)) (sym are.0.id) (ids_ascend records p.id next parts rs sound.2 are.1))

ids_end : (least next : ℕ) (parts : List Part) → ArePartsFrom least next parts → least ≤ next
ids_end least next [] sound = sound
ids_end least next (p ∷ parts) sound = omega (arith, sound.0, ids_end (suc p.id) next parts sound.2)

pub ids_below : (records least next : ℕ) (parts : List Part) (partitions : List Partition) (partition : Partition) → ArePartsFrom least next parts
    → AllZip (IsPartitionOf records) (map part_in parts) partitions → IsIn partitions partition → partition.id < next
ids_below records least next [] [] r sound are is = absurd is
ids_below records least next [] (x ∷ rs) r sound are is = absurd are
ids_below records least next (p ∷ parts) [] r sound are is = absurd are
ids_below records least next (p ∷ parts) (x ∷ rs) r sound are (inl same) =
    omega (arith, ap (λ (y : Partition). y.id) same, are.0.id, ids_end (suc p.id) next parts sound.2)
ids_below records least next (p ∷ parts) (x ∷ rs) r sound are (inr later) = ids_below records (suc p.id) next parts rs r sound.2 are.1 later

-- of as many versions as there are
pub partition_vids : (records count next least : ℕ) (all parts : List Part) (partitions : List Partition) → ArePartsFrom least next all → IsNew (count + 1) all → is_placed all 0 ≡ false
    → ((part : Part) → IsIn parts part → IsIn all part) → AllZip (IsPartitionOf records) (map part_in parts) partitions → (partition : Partition) → IsIn partitions partition → AreVids count partition.versions.items
partition_vids records count next least all [] [] sound new none within are r is = absurd is
partition_vids records count next least all [] (x ∷ rs) sound new none within are r is = absurd are
partition_vids records count next least all (p ∷ parts) [] sound new none within are r is = absurd are
partition_vids records count next least all (p ∷ parts) (x ∷ rs) sound new none within are r (inl same) =
    vids_are count r.versions.items (λ vid e. parts_there count least next all p sound new none (within p (inl refl)) vid
    (ap (λ vs. has vs vid) (sym are.0.versions ∙ ap (λ (y : Partition). y.versions.items) (sym same)) ∙ e))
partition_vids records count next least all (p ∷ parts) (x ∷ rs) sound new none within are r (inr later) =
    partition_vids records count next least all parts rs sound new none (λ q there. within q (inr there)) are.1 r later
