-- What a flip keeps and gives up.
use Rattle.std.proofs.Common.{◌≡◌, ℕ, zero, suc, ◌+◌, ◌<◌, true, false, cond, eqb, List, [], ◌∷◌, ◌++◌, length, get_or, take, drop, refl, ap, inl, inr, arith}
use Rattle.std.proofs.lemmas.Bool.{cases_Bool, eq-eqb, ne_eqb}
use Rattle.ov_host.specs.declared.area.Extent.{Extent}
use Rattle.ov_layout.specs.declared.part.Part.{Part}
use Rattle.std.specs.Prelude.{◌-◌, Some, None}
use Rattle.std.proofs.Math.Seq.{drop-append_seam, take-append_seam}
use Rattle.std.proofs.lemmas.List.{length-append, length-map}
use Rattle.ov_layout.specs.Parts.{has, Ascend, part_numbered, segments_in}
use Rattle.ov_layout.specs.Index.{numbers_of}
use Rattle.ov_layout.proofs.VidLemmas.{keys-strict}
use Rattle.ov_layout.specs.Flips.{AreBelow, others, chosen, no_extent, segments_at}

pub AreBelow-get : (limit : ℕ) (places : List ℕ) (k d : ℕ) → AreBelow limit places → k < length places → get_or places k d < limit
AreBelow-get limit [] k d h lt = absurd (omega arith)
AreBelow-get limit (place ∷ places) zero d h lt = h.0
AreBelow-get limit (place ∷ places) (suc k) d h lt = AreBelow-get limit places k d h.1 (omega arith)

-- the others from a place on, where an extent stands there
others-more : (at k m : ℕ) (places : List ℕ) (extents : List Extent) (d : Extent) → at + k ≡ m → k < length extents → others m places (drop k extents) ≡ cond (has places m) (others (suc m) places (drop (suc k) extents)) (get_or extents k d ∷ others (suc m) places (drop (suc k) extents))
others-more at k m places [] d e lt = absurd (omega arith)
others-more at zero m places (extent ∷ extents) d e lt = refl
others-more at (suc k) m places (extent ∷ extents) d e lt = others-more (suc at) k m places extents d (omega arith) (omega arith)

pub others-next : (k : ℕ) (places : List ℕ) (extents : List Extent) (d : Extent) → k < length extents → others k places (drop k extents) ≡ cond (has places k) (others (k + 1) places (drop (k + 1) extents)) (get_or extents k d ∷ others (k + 1) places (drop (k + 1) extents))
others-next k places extents d lt = let e : k + 1 ≡ suc k = omega arith in rw e (others-more 0 k k places extents d (omega arith) lt)

-- the partition with a number, where its place is known
pub numbered-here : (least : ℕ) (parts : List Part) (at id : ℕ) (d : Part) → Ascend least (numbers_of parts) → at < length parts → (get_or parts at d).id ≡ id → part_numbered id parts ≡ Some (get_or parts at d)
numbered-here least [] at id d h lt e = absurd (omega arith)
numbered-here least (part ∷ parts) zero id d h lt e = rw (eq-eqb part.id id e) refl
numbered-here least (part ∷ parts) (suc at) id d h lt e =
    let above = keys-strict (λ (p : Part). p.id) (part ∷ parts) d least 0 (suc at) h (omega arith) lt in
    let ne : eqb part.id id ≡ false = ne_eqb _ _ (λ same. absurd (omega arith)) in
    rw ne (numbered-here (suc part.id) parts at id d h.1 (omega arith) e)

pub numbered-none : (parts : List Part) (id : ℕ) → has (numbers_of parts) id ≡ false → part_numbered id parts ≡ None
numbered-none [] id h = refl
numbered-none (part ∷ parts) id h =
    elim (cases_Bool (eqb part.id id)) [
      | inl e ↦ let there = rw e at h in absurd cc
      | inr e ↦ rw e (numbered-none parts id (rw e at h))
    ]

ap-lt : (m : ℕ) {n o : ℕ} → n ≡ o → m < n → m < o
ap-lt m e lt = omega arith

-- where a segment is kept, the source is there
pub source-there : (parts : List Part) (source : ℕ) (kept : List ℕ) → AreBelow (length (segments_at source parts)) kept → 0 < length kept → has (numbers_of parts) source ≡ true
source-there parts source [] within some = absurd (omega arith)
source-there parts source (place ∷ kept) within some =
    elim (cases_Bool (has (numbers_of parts) source)) [
      | inl e ↦ e
      | inr e ↦
          let none : segments_at source parts ≡ [] = ap segments_in (numbered-none parts source e) in
          let below : place < 0 = ap-lt place (ap (λ (es : List Extent). length es) none) within.0 in
          absurd (omega (arith, below))
    ]

pub some-long : (places : List ℕ) → eqb (length places) 0 ≡ false → 0 < length places
some-long [] h = absurd cc
some-long (place ∷ places) h = omega arith

pub length-chosen : (places : List ℕ) (extents : List Extent) → length (chosen places extents) ≡ length places
length-chosen places extents = length-map places (λ place. get_or extents place no_extent)

pub rotated : (xs ys : List Extent) (n k : ℕ) → n ≡ length (xs ++ ys) → k ≡ length ys → drop (n - k) (xs ++ ys) ++ take (n - k) (xs ++ ys) ≡ ys ++ xs
rotated xs ys n k all last =
    let size = length-append xs ys in
    let at : n - k ≡ length xs = omega (arith, size, all, last) in
    rw (at, drop-append_seam xs ys, take-append_seam xs ys) refl
