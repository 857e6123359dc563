-- The partitions of a dataset, one after another.
use Rattle.std.proofs.Common.{◌≡◌, ◌<◌, ◌≤◌, ◌+◌, ◌*◌, ◌||◌, ◌==◌, ℕ, zero, suc, true, false, cond, List, [], ◌∷◌, ◌++◌, length, take, get_or, map, refl, sym, ◌∙◌, ap, subst, inl, inr, arith}
use Rattle.std.specs.List.{AllZip, list_any, range_with_len, sum_by}
use Rattle.std.proofs.lemmas.Bool.{cases_Bool, cond-true, eq-eqb, eqb-true, or_cases}
use Rattle.std.proofs.lemmas.List.{map-append}
use Rattle.std.proofs.lemmas.List.Sums.{sum_by-cons, sum_by_more_le, sum_by_push}
use Rattle.ov_fetch.specs.declared.errors.FetchErr.{FetchErr}
use Rattle.ov_fetch.specs.declared.errors.FetchErr.TheVariants.{Host, Memory, Damaged}
use Rattle.ov_fetch.specs.Extents.{Looked, page_bytes}
use Rattle.ov_fetch.proofs.Looks.{looked_again, looked_at_all, same_pages}
use Rattle.ov_graph.specs.Trees.{vids}
use Rattle.ov_host.specs.declared.area.Extent.{Extent}
use Rattle.ov_host.specs.Host.{State}
use Rattle.ov_layout.specs.declared.part.Part.{Part}
use Rattle.ov_layout.specs.Changes.{IsNew}
use Rattle.ov_layout.specs.Parts.{ArePartsFrom, has, is_placed}
use Rattle.ov_member.proofs.RidLemmas.{has-head}
use Rattle.ov_model.specs.Lists.{IsIn}
use Rattle.ov_catalog.specs.declared.cvd.Cvd.{Cvd}
use Rattle.ov_catalog.specs.Numbers.{PartNumbers}
use Rattle.ov_catalog.specs.Sets.{part_in, set_in}
use Rattle.ov_read.specs.Sizes.{pages_in, segment_bytes_for, serves_one}
use Rattle.ov_targets.specs.declared.candidates.Partition.{Partition}
use Rattle.ov_optimize.specs.Damages.{RefusesPartition, RefusesParts}
use Rattle.ov_optimize.specs.Reading.{IsPartitionAt, IsPartitionOf}
use Rattle.ov_optimize.proofs.RidSets.{or_right}
use Rattle.ov_optimize.proofs.Vids.{parts_there}

abbrev pub part_pages : Part → ℕ
part_pages part = pages_in part.segments

zip_push : {A B : Type 0} (R : A → B → Type 0) (xs : List A) (ys : List B) (x : A) (y : B) → AllZip R xs ys → R x y → AllZip R (xs ++ x ∷ []) (ys ++ y ∷ [])
zip_push R [] [] x y all is = (is, tt)
zip_push R [] (b ∷ ys) x y all is = absurd all
zip_push R (a ∷ xs) [] x y all is = absurd all
zip_push R (a ∷ xs) (b ∷ ys) x y all is = (all.0, zip_push R xs ys x y all.1 is)

-- so many were read
pub record HasPartitions (before now : State) (d : Cvd) (parts : List Part) (partitions : List Partition) : Type 0 where
  pub looked : Looked before now
  pub fetched : now.fetched ≤ before.fetched + 4096 * sum_by part_pages parts
  pub parted : AllZip (IsPartitionOf d.records) (map part_in parts) partitions
  pub told : before.tells ≡ true → AllZip (IsPartitionAt (page_bytes before) (set_in d)) (map part_in parts) partitions

pub starts : (at : State) (d : Cvd) (partitions : List Partition) → partitions ≡ [] → HasPartitions at at d [] partitions
starts at d partitions none = record {
  looked = looked_at_all at;
  fetched = omega arith;
  parted = subst (AllZip (IsPartitionOf d.records) []) (sym none) tt;
  told = λ told. subst (AllZip (IsPartitionAt (page_bytes at) (set_in d)) []) (sym none) tt;
}

pub goes_on : (s0 s1 s2 : State) (d : Cvd) (parts : List Part) (part : Part) (partitions : List Partition) (partition : Partition) → HasPartitions s0 s1 d parts partitions
    → Looked s1 s2 → s2.fetched ≤ s1.fetched + 4096 * pages_in part.segments → IsPartitionOf d.records (part_in part) partition
    → (s1.tells ≡ true → IsPartitionAt (page_bytes s1) (set_in d) (part_in part) partition) → HasPartitions s0 s2 d (parts ++ part ∷ []) (partitions ++ partition ∷ [])
goes_on s0 s1 s2 d parts part partitions partition h looked fetched is at = record {
  looked = looked_again s0 s1 s2 h.looked looked;
  fetched = omega (arith, h.fetched, fetched, sum_by_push part_pages parts part);
  parted = subst (λ ps. AllZip (IsPartitionOf d.records) ps (partitions ++ partition ∷ [])) (sym (map-append part_in parts (part ∷ [])))
      (zip_push (IsPartitionOf d.records) (map part_in parts) partitions (part_in part) partition h.parted is);
  told = λ told. subst (λ ps. AllZip (IsPartitionAt (page_bytes s0) (set_in d)) ps (partitions ++ partition ∷ [])) (sym (map-append part_in parts (part ∷ [])))
      (zip_push (IsPartitionAt (page_bytes s0) (set_in d)) (map part_in parts) partitions (part_in part) partition (h.told told)
      (subst (λ (a : List ℕ). IsPartitionAt a (set_in d) (part_in part) partition) (same_pages s0 s1 h.looked told) (at (h.looked.told ∙ told))));
}

is_listed : (parts : List Part) (k : ℕ) (part : Part) → k < length parts → part ≡ get_or parts k part → IsIn (map part_in parts) (part_in part)
is_listed [] k part low is = absurd (omega (arith, low))
is_listed (p ∷ parts) zero part low is = inl (ap part_in is)
is_listed (p ∷ parts) (suc k) part low is = inr (is_listed parts k part (omega (arith, low)) is)

pub stops : (s0 s1 : State) (d : Cvd) (some : List Part) (k : ℕ) (part : Part) (partitions : List Partition) (e : FetchErr) → HasPartitions s0 s1 d some partitions
    → k < length d.layout.parts → part ≡ get_or d.layout.parts k part → (s1.tells ≡ true → RefusesPartition e (page_bytes s1) (set_in d) (part_in part)) → s0.tells ≡ true
    → RefusesParts e (page_bytes s0) (set_in d)
stops s0 s1 d some k part partitions Host h low is refuses told = tt
stops s0 s1 d some k part partitions Memory h low is refuses told = tt
stops s0 s1 d some k part partitions (Damaged page) h low is refuses told =
    record {
      part = part_in part;
      among = is_listed d.layout.parts k part low is;
      bad = subst (λ (a : List ℕ). RefusesPartition (Damaged page) a (set_in d) (part_in part)) (same_pages s0 s1 h.looked told) (refuses (h.looked.told ∙ told));
    }

-- ---- each partition has a version, and so is read

range_has : (from count vid : ℕ) → from ≤ vid → vid < from + count → has (range_with_len from count) vid ≡ true
range_has from zero vid le lt = absurd (omega (arith, le, lt))
range_has from (suc count) vid le lt = elim (cases_Bool (from == vid)) [
  | inl e ↦ rw e refl
  | inr e ↦ or_right (from == vid) (has (range_with_len (from + 1) count) vid) (range_has (from + 1) count vid (other e) (omega (arith, lt)))
]
  where
    clash : true ≡ false → ⊥
    clash e = cc

    more : (n m : ℕ) → n ≤ m → (n ≡ m → ⊥) → n + 1 ≤ m
    more n m le ne = omega (arith, le, ne)

    other : (from == vid) ≡ false → from + 1 ≤ vid
    other e = more from vid le (λ same. clash (sym (eq-eqb from vid same) ∙ e))

any_served : (versions all : List ℕ) (vid : ℕ) → has versions vid ≡ true → has all vid ≡ true → list_any (λ v. has versions v) all ≡ true
any_served versions [] vid there among = cc
any_served versions (v ∷ all) vid there among = elim (or_cases (v == vid) (has all vid) among) [
  | inl here ↦ ap (λ b. b || list_any (λ u. has versions u) all) (ap (has versions) (same v here) ∙ there)
  | inr later ↦ or_right (has versions v) (list_any (λ u. has versions u) all) (any_served versions all vid there later)
]
  where
    same : (v : ℕ) → (v == vid) ≡ true → v ≡ vid
    same v e = eqb-true v vid e

is_served : (count : ℕ) (versions : List ℕ) → 0 < length versions → ((vid : ℕ) → has versions vid ≡ true → (1 ≤ vid) × (vid ≤ count)) → list_any (λ v. has versions v) (vids count) ≡ true
is_served count [] some there = absurd (omega (arith, some))
is_served count (v ∷ versions) some there =
    let here : has (v ∷ versions) v ≡ true = has-head v versions in
    let at = there v here in
    any_served (v ∷ versions) (vids count) v here (range_has 1 count v at.0 (omega (arith, at.1)))

all_read : (vs : List ℕ) (parts : List Part) → ((part : Part) → IsIn parts part → list_any (λ v. has part.versions v) vs ≡ true)
    → sum_by (λ (part : PartNumbers Extent). cond (serves_one vs part) (pages_in part.segments) 0) (map part_in parts) ≡ sum_by part_pages parts
all_read vs [] served = refl
all_read vs (p ∷ parts) served =
    omega (
      arith,
      sum_by-cons (λ (part : PartNumbers Extent). cond (serves_one vs part) (pages_in part.segments) 0) (part_in p) (map part_in parts),
      sum_by-cons part_pages p parts,
      cond-true {A = ℕ} (serves_one vs (part_in p)) (pages_in p.segments) 0 (served p (inl refl)),
      all_read vs parts (λ part there. served part (inr there)),
    )

some_versions : (least next : ℕ) (parts : List Part) (part : Part) → ArePartsFrom least next parts → IsIn parts part → 0 < length part.versions
some_versions least next [] part sound is = absurd is
some_versions least next (p ∷ parts) part sound (inl same) = subst (λ (x : Part). 0 < length x.versions) (sym same) sound.1.some
some_versions least next (p ∷ parts) part sound (inr later) = some_versions (suc p.id) next parts part sound.2 later

-- so what is read of all of them is what all versions ask for
pub all_bytes : (d : Cvd) (count : ℕ) → ArePartsFrom 1 d.layout.next d.layout.parts → IsNew (count + 1) d.layout.parts → is_placed d.layout.parts 0 ≡ false
    → 4096 * sum_by part_pages d.layout.parts ≡ segment_bytes_for (set_in d) (vids count)
all_bytes d count sound new none =
    ap (λ n. 4096 * n) (sym (all_read (vids count) d.layout.parts (λ part is.
    is_served count part.versions (some_versions 1 d.layout.next d.layout.parts part sound is)
    (parts_there count 1 d.layout.next d.layout.parts part sound new none is))))

pub within : (parts : List Part) (k before now more all : ℕ) (part : Part) → k < length parts → part ≡ get_or parts k part → 4096 * sum_by part_pages parts ≡ all
    → now ≤ before + 4096 * sum_by part_pages (take k parts) → more ≤ now + 4096 * pages_in part.segments → more ≤ before + all
within parts k before now more all part low is same h one =
    omega (arith, h, one, same, sum_by_more_le part_pages parts k part low, ap part_pages is)
