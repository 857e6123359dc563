-- Datasets by their numbers.
use Rattle.std.proofs.Common.{◌≡◌, ℕ, zero, suc, ◌<◌, Bool, true, false, not, eqb, ltb, List, [], ◌∷◌, ◌++◌, length, get_or, set, map, refl, sym, ap, ◌∙◌, inl, inr, arith}
use Rattle.std.specs.Prelude.{filter, find, Some, None, flat_map}
use Rattle.std.specs.List.Sorted.{IsPartitionPoint}
use Rattle.std.proofs.lemmas.Bool.{cases_Bool, eq-eqb, ne_eqb}
use Rattle.ov_host.specs.declared.area.Extent.{Extent}
use Rattle.ov_layout.specs.Parts.{has, Ascend}
use Rattle.ov_layout.specs.Changes.{IsAbove}
use Rattle.ov_layout.proofs.VidLemmas.{Ascend-weaker, keys-strict, point-missing}
use Rattle.ov_catalog.specs.declared.cvd.Cvd.{Cvd}
use Rattle.ov_catalog.specs.declared.cvd.Version.{Version}
use Rattle.ov_layout.specs.declared.part.Part.{Part}
use Rattle.ov_catalog.specs.Extents.{of_plan, of_set}
use Rattle.ov_catalog.specs.Numbers.{SetNumbers, VersionNumbers, PartNumbers}
use Rattle.ov_catalog.specs.Events.{numbered, change}
use Rattle.ov_catalog.specs.Sets.{set_in, sets_in, numbers_of, stays, version_in, part_in, plan_in}

abbrev pub number_of : Cvd → ℕ
number_of d = d.number

pub find-at : (n least at : ℕ) (sets : List Cvd) (d : Cvd) → Ascend least (numbers_of sets) → at < length sets → (get_or sets at d).number ≡ n → find (numbered n) (sets_in sets) ≡ Some (set_in (get_or sets at d))
find-at n least at [] d h lt e = absurd (omega arith)
find-at n least zero (s ∷ sets) d h lt e = rw (eq-eqb s.number n e) refl
find-at n least (suc at) (s ∷ sets) d h lt e =
    let above = keys-strict number_of (s ∷ sets) d least 0 (suc at) h (omega arith) lt in
    rw (ne_eqb s.number n (λ same. absurd (omega (arith, above, same, e)))) (find-at n (suc s.number) at sets d h.1 (omega arith) e)

pub find-none : (n : ℕ) (sets : List Cvd) → has (numbers_of sets) n ≡ false → find (numbered n) (sets_in sets) ≡ None
find-none n [] h = refl
find-none n (s ∷ sets) h =
    elim (cases_Bool (eqb s.number n)) [
      | inl e ↦ let no = rw e at h in absurd cc
      | inr e ↦ rw e (find-none n sets (rw e at h))
    ]

pub change-at : (n least at : ℕ) (f : SetNumbers Extent Extent → SetNumbers Extent Extent) (sets : List Cvd) (d new : Cvd) → Ascend least (numbers_of sets) → at < length sets → (get_or sets at d).number ≡ n → set_in new ≡ f (set_in (get_or sets at d)) → sets_in (set sets at new) ≡ change n f (sets_in sets)
change-at n least at f [] d new h lt e is = absurd (omega arith)
change-at n least zero f (s ∷ sets) d new h lt e is = rw (eq-eqb s.number n e) (ap (λ (x : SetNumbers Extent Extent). x ∷ sets_in sets) is)
change-at n least (suc at) f (s ∷ sets) d new h lt e is =
    let above = keys-strict number_of (s ∷ sets) d least 0 (suc at) h (omega arith) lt in
    rw (ne_eqb s.number n (λ same. absurd (omega (arith, above, same, e)))) (ap (λ (xs : List (SetNumbers Extent Extent)). set_in s ∷ xs) (change-at n (suc s.number) at f sets d new h.1 (omega arith) e is))

filter-none : (n least : ℕ) (sets : List Cvd) → Ascend least (numbers_of sets) → n < least → filter (numbered n) (sets_in sets) ≡ []
filter-none n least [] h lt = refl
filter-none n least (s ∷ sets) h lt =
    let le = h.0 in
    rw (ne_eqb s.number n (λ e. absurd (omega (arith, e, le)))) (filter-none n (suc s.number) sets h.1 (omega (arith, le)))

pub filter-at : (n least at : ℕ) (sets : List Cvd) (d : Cvd) → Ascend least (numbers_of sets) → at < length sets → (get_or sets at d).number ≡ n → filter (numbered n) (sets_in sets) ≡ set_in (get_or sets at d) ∷ []
filter-at n least at [] d h lt e = absurd (omega arith)
filter-at n least zero (s ∷ sets) d h lt e = rw (eq-eqb s.number n e) (ap (λ (xs : List (SetNumbers Extent Extent)). set_in s ∷ xs) (filter-none n (suc s.number) sets h.1 (omega (arith, e))))
filter-at n least (suc at) (s ∷ sets) d h lt e =
    let above = keys-strict number_of (s ∷ sets) d least 0 (suc at) h (omega arith) lt in
    rw (ne_eqb s.number n (λ same. absurd (omega (arith, above, same, e)))) (filter-at n (suc s.number) at sets d h.1 (omega arith) e)

-- without the dataset of a number
pub stay-in : (n : ℕ) (sets : List Cvd) → sets_in (filter (stays n) sets) ≡ filter (λ s. not (numbered n s)) (sets_in sets)
stay-in n [] = refl
stay-in n (s ∷ sets) =
    elim (cases_Bool (eqb s.number n)) [
      | inl e ↦ rw e (stay-in n sets)
      | inr e ↦ rw e (ap (λ (xs : List (SetNumbers Extent Extent)). set_in s ∷ xs) (stay-in n sets))
    ]

pub stay-ascend : (n least : ℕ) (sets : List Cvd) → Ascend least (numbers_of sets) → Ascend least (numbers_of (filter (stays n) sets))
stay-ascend n least [] h = tt
stay-ascend n least (s ∷ sets) h =
    let rest = stay-ascend n (suc s.number) sets h.1 in
    let le = h.0 in
    elim (cases_Bool (eqb s.number n)) [
      | inl e ↦ rw e (Ascend-weaker least (suc s.number) (numbers_of (filter (stays n) sets)) (omega (arith, le)) rest)
      | inr e ↦ rw e (h.0, rest)
    ]

pub stay-below : (n next : ℕ) (sets : List Cvd) → IsAbove next (numbers_of sets) → IsAbove next (numbers_of (filter (stays n) sets))
stay-below n next [] h = tt
stay-below n next (s ∷ sets) h =
    let rest = stay-below n next sets h.1 in
    elim (cases_Bool (eqb s.number n)) [
      | inl e ↦ rw e rest
      | inr e ↦ rw e (h.0, rest)
    ]

-- the numbers of datasets are those that are seen
pub numbers-seen : (sets : List Cvd) → numbers_of sets ≡ map (λ (s : SetNumbers Extent Extent). s.number) (sets_in sets)
numbers-seen [] = refl
numbers-seen (s ∷ sets) = ap (λ (ns : List ℕ). s.number ∷ ns) (numbers-seen sets)

pub same-numbers : (a b : List Cvd) → sets_in a ≡ sets_in b → numbers_of a ≡ numbers_of b
same-numbers a b e = numbers-seen a ∙ ap (λ (xs : List (SetNumbers Extent Extent)). map (λ (s : SetNumbers Extent Extent). s.number) xs) e ∙ sym (numbers-seen b)

pub set-same : (sets : List Cvd) (at : ℕ) (d new : Cvd) → at < length sets → set_in new ≡ set_in (get_or sets at d) → sets_in (set sets at new) ≡ sets_in sets
set-same [] at d new lt e = absurd (omega arith)
set-same (s ∷ sets) zero d new lt e = ap (λ (x : SetNumbers Extent Extent). x ∷ sets_in sets) e
set-same (s ∷ sets) (suc at) d new lt e = ap (λ (xs : List (SetNumbers Extent Extent)). set_in s ∷ xs) (set-same sets at d new (omega arith) e)

pub set-numbers : (sets : List Cvd) (at : ℕ) (d new : Cvd) → at < length sets → new.number ≡ (get_or sets at d).number → numbers_of (set sets at new) ≡ numbers_of sets
set-numbers [] at d new lt e = absurd (omega arith)
set-numbers (s ∷ sets) zero d new lt e = ap (λ (x : ℕ). x ∷ numbers_of sets) e
set-numbers (s ∷ sets) (suc at) d new lt e = ap (λ (xs : List ℕ). s.number ∷ xs) (set-numbers sets at d new (omega arith) e)

pub push-in : (sets : List Cvd) (d : Cvd) → sets_in (sets ++ d ∷ []) ≡ sets_in sets ++ set_in d ∷ []
push-in [] d = refl
push-in (s ∷ sets) d = ap (λ (xs : List (SetNumbers Extent Extent)). set_in s ∷ xs) (push-in sets d)

pub push-numbers : (sets : List Cvd) (d : Cvd) → numbers_of (sets ++ d ∷ []) ≡ numbers_of sets ++ d.number ∷ []
push-numbers [] d = refl
push-numbers (s ∷ sets) d = ap (λ (xs : List ℕ). s.number ∷ xs) (push-numbers sets d)

-- what an index reads doesn't depend on the default
pub get-any : {X : Type 0} (xs : List X) (k : ℕ) (d e : X) → k < length xs → get_or xs k d ≡ get_or xs k e
get-any [] k d e lt = absurd (omega arith)
get-any (x ∷ xs) zero d e lt = refl
get-any (x ∷ xs) (suc k) d e lt = get-any xs k d e (omega arith)

-- a search by halves that finds nothing
pub missing : (n at : ℕ) (sets : List Cvd) → Ascend 0 (numbers_of sets) → IsPartitionPoint (λ d. ltb (number_of d) n ≡ true) (λ d. ltb (number_of d) n ≡ false) sets at → ((d : Cvd) → at < length sets → (get_or sets at d).number ≡ n → ⊥) → has (numbers_of sets) n ≡ false
missing n at [] h point none = refl
missing n at (s ∷ sets) h point none = point-missing number_of (s ∷ sets) s 0 n at h point (none s)

-- the extents of a dataset
lists-in : (versions : List Version) → map (λ (v : VersionNumbers Extent). v.list) (map version_in versions) ≡ map (λ (v : Version). v.list) versions
lists-in [] = refl
lists-in (v ∷ versions) = ap (λ (es : List Extent). v.list ∷ es) (lists-in versions)

segments-in : (parts : List Part) → flat_map (λ (p : PartNumbers Extent). p.segments) (map part_in parts) ≡ flat_map (λ (p : Part). p.segments) parts
segments-in [] = refl
segments-in (p ∷ parts) = ap (λ (es : List Extent). p.segments ++ es) (segments-in parts)

pub extents-of : (d : Cvd) → of_set (set_in d) ≡ map (λ (v : Version). v.list) d.versions.items ++ (flat_map (λ (p : Part). p.segments) d.layout.parts ++ of_plan (plan_in d.plan))
extents-of d = rw (lists-in d.versions.items, segments-in d.layout.parts) refl

-- a change of a dataset that isn't there
pub change-none : (n : ℕ) (f : SetNumbers Extent Extent → SetNumbers Extent Extent) (sets : List (SetNumbers Extent Extent)) → find (numbered n) sets ≡ None → sets ≡ change n f sets
change-none n f [] h = refl
change-none n f (s ∷ sets) h =
    elim (cases_Bool (eqb s.number n)) [
      | inl e ↦ let no = rw e at h in absurd cc
      | inr e ↦ rw e (ap (λ (xs : List (SetNumbers Extent Extent)). s ∷ xs) (change-none n f sets (rw e at h)))
    ]

pub filter-empty : {X : Type 0} (p : X → Bool) (xs : List X) → find p xs ≡ None → filter p xs ≡ []
filter-empty p [] h = refl
filter-empty p (x ∷ xs) h =
    elim (cases_Bool (p x)) [
      | inl e ↦ let no = rw e at h in absurd cc
      | inr e ↦ rw e (filter-empty p xs (rw e at h))
    ]
