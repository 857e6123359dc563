-- A flip over partitions as they are kept and as they are seen.
use Rattle.std.proofs.Common.{◌≡◌, ℕ, zero, suc, ◌+◌, ◌-◌, ◌<◌, ◌≤◌, false, eqb, List, [], ◌∷◌, ◌++◌, length, get_or, map, refl, ap, ◌∙◌, inl, inr, arith}
use Rattle.std.specs.Prelude.{flat_map}
use Rattle.std.proofs.lemmas.Bool.{cases_Bool, ne_eqb}
use Rattle.ov_host.specs.declared.area.Extent.{Extent}
use Rattle.ov_layout.specs.declared.part.Part.{Part}
use Rattle.ov_layout.specs.Parts.{has}
use Rattle.ov_layout.specs.Flips as layout
use Rattle.ov_layout.specs.Flips.{Flip, AreBelow}
use Rattle.ov_catalog.specs.Numbers.{PartNumbers, TargetNumbers}
use Rattle.ov_catalog.specs.Events.{leaving, is_empty, left_parts, segments_at, one_at, chosen, is_one}
use Rattle.ov_catalog.specs.Extents.{others, parted_with, emptied}
use Rattle.ov_catalog.specs.Sets.{part_in}

-- the partitions that are left
pub left-in : (versions : List ℕ) (parts : List Part) → map part_in (layout.left_parts versions parts) ≡ left_parts versions (map part_in parts)
left-in versions [] = refl
left-in versions (part ∷ parts) =
    elim (cases_Bool (layout.is_empty (layout.leaving versions part))) [
      | inl e ↦ rw e (left-in versions parts)
      | inr e ↦ rw e (ap (λ (ps : List (PartNumbers Extent)). part_in (layout.leaving versions part) ∷ ps) (left-in versions parts))
    ]

pub push-in : (parts : List Part) (part : Part) → map part_in (parts ++ part ∷ []) ≡ map part_in parts ++ part_in part ∷ []
push-in [] part = refl
push-in (p ∷ parts) part = ap (λ (ps : List (PartNumbers Extent)). part_in p ∷ ps) (push-in parts part)

-- the segments that are kept
pub segments-in : (id : ℕ) (parts : List Part) → layout.segments_at id parts ≡ segments_at id (map part_in parts)
segments-in id [] = refl
segments-in id (part ∷ parts) =
    elim (cases_Bool (eqb part.id id)) [
      | inl e ↦ rw e refl
      | inr e ↦ rw e (segments-in id parts)
    ]

one-at : (extents : List Extent) (place : ℕ) (d : Extent) → place < length extents → get_or extents place d ∷ [] ≡ one_at extents place
one-at [] place d lt = absurd (omega arith)
one-at (e ∷ extents) zero d lt = refl
one-at (e ∷ extents) (suc place) d lt =
    let ne : eqb (suc place) 0 ≡ false = ne_eqb (suc place) 0 (λ same. absurd (omega (arith, same))) in
    let down : suc place - 1 ≡ place = omega arith in
    rw (ne, down) (one-at extents place d (omega arith))

pub chosen-in : (places : List ℕ) (extents : List Extent) → AreBelow (length extents) places → layout.chosen places extents ≡ chosen places extents
chosen-in [] extents h = refl
chosen-in (place ∷ places) extents h =
    ap (λ (es : List Extent). get_or extents place layout.no_extent ∷ es) (chosen-in places extents h.1)
    ∙ ap (λ (es : List Extent). es ++ chosen places extents) (one-at extents place layout.no_extent h.0)

-- what is given up
others-in : (at : ℕ) (places : List ℕ) (extents : List Extent) → layout.others at places extents ≡ others at places extents
others-in at places [] = refl
others-in at places (e ∷ extents) =
    let up : at + 1 ≡ suc at = omega arith in
    let rest = others-in (suc at) places extents in
    elim (cases_Bool (has places at)) [
      | inl is ↦ rw (is, up) rest
      | inr not_so ↦ rw (not_so, up) (ap (λ (es : List Extent). e ∷ es) rest)
    ]

parted-in : (flip : Flip) (t : TargetNumbers) (part : Part) → flip.source ≡ t.source → flip.kept ≡ t.kept → layout.parted_with flip part ≡ parted_with t (part_in part)
parted-in flip t part source kept =
    rw (source, kept) (elim (cases_Bool (eqb part.id t.source)) [
      | inl e ↦ rw e (others-in 0 t.kept part.segments)
      | inr e ↦ rw e refl
    ])

pub given-in : (flip : Flip) (t : TargetNumbers) (parts : List Part) → flip.versions ≡ t.versions → flip.source ≡ t.source → flip.kept ≡ t.kept → layout.given_up flip parts ≡ flat_map (parted_with t) (emptied t (map part_in parts))
given-in flip t [] versions source kept = refl
given-in flip t (part ∷ parts) versions source kept =
    let rest = given-in flip t parts versions source kept in
    let own = parted-in flip t part source kept in
    let same : layout.is_empty (layout.leaving flip.versions part) ≡ is_empty (leaving t.versions (part_in part)) = ap (λ (vs : List ℕ). layout.is_empty (layout.leaving vs part)) versions in
    elim (cases_Bool (is_empty (leaving t.versions (part_in part)))) [
      | inl e ↦ rw (same, e) (λ i. own i ++ rest i)
      | inr e ↦ rw (same, e) rest
    ]

-- it is no more than there is
others-few : (at : ℕ) (places : List ℕ) (extents : List Extent) → length (others at places extents) ≤ length extents
others-few at places [] = omega arith
others-few at places (e ∷ extents) =
    let rest = others-few (at + 1) places extents in
    elim (cases_Bool (is_one places at)) [
      | inl is ↦ rw is (omega (arith, rest))
      | inr not_so ↦ rw not_so (omega (arith, rest))
    ]

parted-few : (t : TargetNumbers) (part : Part) → length (parted_with t (part_in part)) ≤ length part.segments
parted-few t part =
    elim (cases_Bool (eqb part.id t.source)) [
      | inl e ↦ rw e (others-few 0 t.kept part.segments)
      | inr e ↦ rw e (omega arith)
    ]
