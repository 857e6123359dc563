-- Partitions as they are kept and as they are seen.
use Rattle.std.proofs.Common.{◌≡◌, ℕ, zero, suc, ◌+◌, ◌<◌, ◌≤◌, Bool, true, false, ◌||◌, eqb, List, [], ◌∷◌, ◌++◌, length, get_or, map, refl, sym, ap, subst, ◌∙◌, inl, inr, arith}
use Rattle.std.specs.Prelude.{Option, Some, None, sum_by}
use Rattle.std.proofs.lemmas.Bool.{cases_Bool, eq-eqb, ne_eqb, eqb-true}
use Rattle.std.proofs.lemmas.List.Sums.{sum_by-cons}
use Rattle.std.proofs.lemmas.List.Folds.{list_any-append}
use Rattle.ov_host.specs.declared.area.Extent.{Extent}
use Rattle.ov_layout.specs.declared.part.Part.{Part}
use Rattle.ov_layout.specs.Parts.{has, serves, Ascend, ArePartsFrom, part_numbered, part_with, is_number, is_placed, records_at, stored_of}
use Rattle.ov_layout.proofs.VidLemmas.{has-below}
use Rattle.ov_layout.specs.Index.{numbers_of}
use Rattle.ov_layout.specs.Changes.{extents_of, own_part, joined_part, joined_at}
use Rattle.ov_catalog.specs.Numbers.{PartNumbers}
use Rattle.ov_catalog.specs.Applying.{part_serving, id_in, records_in, part_numbered as number_in}
use Rattle.ov_catalog.specs.Events.{with_joined, join_at}
use Rattle.ov_catalog.specs.Sets.{part_in}

or-true : (b : Bool) → (b || true) ≡ true
or-true true = refl
or-true false = refl

or-false : (b : Bool) → (b || false) ≡ b
or-false true = refl
or-false false = refl

pub stored-in : (parts : List Part) → sum_by (λ (part : PartNumbers Extent). part.records) (map part_in parts) ≡ stored_of parts
stored-in [] = refl
stored-in (part ∷ parts) =
    sum_by-cons (λ (p : PartNumbers Extent). p.records) (part_in part) (map part_in parts)
    ∙ ap (λ (n : ℕ). part.records + n) (stored-in parts)
    ∙ sym (sum_by-cons (λ (p : Part). p.records) part parts)

abbrev pub id_of : Option Part → ℕ
id_of None = 0
id_of (Some part) = part.id

pub serving-id : (vid : ℕ) (parts : List Part) → id_in (part_serving (map part_in parts) vid) ≡ id_of (part_with vid parts)
serving-id vid [] = refl
serving-id vid (part ∷ parts) =
    elim (cases_Bool (serves vid part)) [
      | inl e ↦ rw e refl
      | inr e ↦ rw e (serving-id vid parts)
    ]

pub numbered-records : (id : ℕ) (parts : List Part) → records_in (number_in (map part_in parts) id) ≡ records_at id parts
numbered-records id [] = refl
numbered-records id (part ∷ parts) =
    elim (cases_Bool (eqb part.id id)) [
      | inl e ↦ rw e refl
      | inr e ↦ rw e (numbered-records id parts)
    ]

pub serving-there : (vid : ℕ) (parts : List Part) → is_placed parts vid ≡ true → is_number parts (id_in (part_serving (map part_in parts) vid)) ≡ true
serving-there vid [] h = absurd cc
serving-there vid (part ∷ parts) h =
    elim (cases_Bool (serves vid part)) [
      | inl e ↦ rw e (rw (eq-eqb part.id part.id refl) refl)
      | inr e ↦
          let rest = serving-there vid parts (rw e at h) in
          let same : id_in (part_serving (map part_in (part ∷ parts)) vid) ≡ id_in (part_serving (map part_in parts) vid) = rw e refl in
          subst (λ (i : ℕ). is_number (part ∷ parts) i ≡ true) (sym same) (rw rest (or-true (eqb part.id (id_in (part_serving (map part_in parts) vid)))))
    ]

-- the numbers of partitions ascend
pub id-least : (least at : ℕ) (parts : List Part) (d : Part) → Ascend least (numbers_of parts) → at < length parts → least ≤ (get_or parts at d).id
id-least least at [] d h lt = absurd (omega arith)
id-least least zero (part ∷ parts) d h lt = h.0
id-least least (suc at) (part ∷ parts) d h lt =
    let rest = id-least (suc part.id) at parts d h.1 (omega arith) in
    let le = h.0 in
    omega (arith, rest, le)

-- a search by number
pub records-at : (id least at : ℕ) (parts : List Part) (d e : Part) → Ascend least (numbers_of parts) → at < length parts → (get_or parts at d).id ≡ id → records_at id parts ≡ (get_or parts at e).records
records-at id least at [] d e h lt is = absurd (omega arith)
records-at id least zero (part ∷ parts) d e h lt is = rw (eq-eqb part.id id is) refl
records-at id least (suc at) (part ∷ parts) d e h lt is =
    let rest = records-at id (suc part.id) at parts d e h.1 (omega arith) is in
    let above = id-least (suc part.id) at parts d h.1 (omega arith) in
    rw (ne_eqb part.id id (λ same. absurd (omega (arith, above, same, is)))) rest

pub records-none : (id : ℕ) (parts : List Part) → has (numbers_of parts) id ≡ false → records_at id parts ≡ 0
records-none id [] h = refl
records-none id (part ∷ parts) h =
    elim (cases_Bool (eqb part.id id)) [
      | inl e ↦ let no = rw e at h in absurd cc
      | inr e ↦ rw e (records-none id parts (rw e at h))
    ]

-- a version joins a partition
join-others : (vid added id : ℕ) (segment : Extent) (least : ℕ) (parts : List Part) → Ascend least (numbers_of parts) → id < least → map part_in (joined_at vid id added segment parts) ≡ map part_in parts
join-others vid added id segment least [] h lt = refl
join-others vid added id segment least (part ∷ parts) h lt =
    let le = h.0 in
    rw (ne_eqb part.id id (λ e. absurd (omega (arith, e, le)))) (ap (λ (ps : List (PartNumbers Extent)). part_in part ∷ ps) (join-others vid added id segment (suc part.id) parts h.1 (omega (arith, le))))

pub join-in : (vid added id : ℕ) (segment : Extent) (least : ℕ) (parts : List Part) → Ascend least (numbers_of parts) → map part_in (joined_at vid id added segment parts) ≡ join_at id vid added (extents_of segment) (map part_in parts)
join-in vid added id segment least [] h = refl
join-in vid added id segment least (part ∷ parts) h =
    elim (cases_Bool (eqb part.id id)) [
      | inl e ↦
          let same : part.id ≡ id = eqb-true part.id id e in
          rw e (ap (λ (ps : List (PartNumbers Extent)). with_joined vid added (extents_of segment) (part_in part) ∷ ps) (join-others vid added id segment (suc part.id) parts h.1 (omega (arith, same))))
      | inr e ↦ rw e (ap (λ (ps : List (PartNumbers Extent)). part_in part ∷ ps) (join-in vid added id segment (suc part.id) parts h.1))
    ]

pub own-in : (id vid records : ℕ) (segment : Extent) (parts : List Part) → map part_in (parts ++ own_part id vid records segment ∷ []) ≡ map part_in parts ++ part_in (own_part id vid records segment) ∷ []
own-in id vid records segment [] = refl
own-in id vid records segment (part ∷ parts) = ap (λ (ps : List (PartNumbers Extent)). part_in part ∷ ps) (own-in id vid records segment parts)

-- which versions are placed then
own-serves : (id vid records : ℕ) (segment : Extent) → serves vid (own_part id vid records segment) ≡ true
own-serves id vid records segment = rw (eq-eqb vid vid refl) refl

pub own-placed : (id vid records : ℕ) (segment : Extent) (parts : List Part) → is_placed (parts ++ own_part id vid records segment ∷ []) vid ≡ true
own-placed id vid records segment parts =
    list_any-append (serves vid) parts (own_part id vid records segment ∷ [])
    ∙ (rw (own-serves id vid records segment) (or-true (is_placed parts vid)))

pub own-stay : (id vid records : ℕ) (segment : Extent) (parts : List Part) (v : ℕ) → is_placed parts v ≡ true → is_placed (parts ++ own_part id vid records segment ∷ []) v ≡ true
own-stay id vid records segment parts v h = list_any-append (serves v) parts (own_part id vid records segment ∷ []) ∙ (rw h refl)

joined-serves : (vid added : ℕ) (segment : Extent) (part : Part) (v : ℕ) → serves v (joined_part vid added segment part) ≡ (serves v part || (eqb vid v || false))
joined-serves vid added segment part v = list_any-append (λ (w : ℕ). eqb w v) part.versions (vid ∷ [])

pub join-stay : (vid added id : ℕ) (segment : Extent) (parts : List Part) (v : ℕ) → is_placed parts v ≡ true → is_placed (joined_at vid id added segment parts) v ≡ true
join-stay vid added id segment [] v h = absurd cc
join-stay vid added id segment (part ∷ parts) v h =
    elim (cases_Bool (serves v part)) [
      | inl here ↦ elim (cases_Bool (eqb part.id id)) [
        | inl e ↦ rw e (rw (joined-serves vid added segment part v, here) refl)
        | inr e ↦ rw e (rw here refl)
      ]
      | inr away ↦
          let rest = join-stay vid added id segment parts v (rw away at h) in
          rw rest (or-true _)
    ]

pub join-placed : (vid added id : ℕ) (segment : Extent) (parts : List Part) → is_number parts id ≡ true → is_placed (joined_at vid id added segment parts) vid ≡ true
join-placed vid added id segment [] h = absurd cc
join-placed vid added id segment (part ∷ parts) h =
    elim (cases_Bool (eqb part.id id)) [
      | inl e ↦ rw e (rw (joined-serves vid added segment part vid, eq-eqb vid vid refl, or-true (serves vid part)) refl)
      | inr e ↦ rw e (rw (join-placed vid added id segment parts (rw e at h)) (or-true (serves vid part)))
    ]

-- which versions are not placed then
own-not : (id vid records : ℕ) (segment : Extent) (v : ℕ) → (v ≡ vid → ⊥) → serves v (own_part id vid records segment) ≡ false
own-not id vid records segment v ne = rw (ne_eqb vid v (λ e. ne (sym e))) refl

pub own-others : (id vid records : ℕ) (segment : Extent) (parts : List Part) (v : ℕ) → (v ≡ vid → ⊥) → is_placed parts v ≡ false → is_placed (parts ++ own_part id vid records segment ∷ []) v ≡ false
own-others id vid records segment parts v ne h =
    list_any-append (serves v) parts (own_part id vid records segment ∷ []) ∙ (rw (h, own-not id vid records segment v ne) refl)

pub join-others-out : (vid added id : ℕ) (segment : Extent) (parts : List Part) (v : ℕ) → (v ≡ vid → ⊥) → is_placed parts v ≡ false → is_placed (joined_at vid id added segment parts) v ≡ false
join-others-out vid added id segment [] v ne h = refl
join-others-out vid added id segment (part ∷ parts) v ne h =
    elim (cases_Bool (serves v part)) [
      | inl here ↦ let no = rw here at h in absurd cc
      | inr away ↦
          let rest = join-others-out vid added id segment parts v ne (rw away at h) in
          let last : eqb vid v ≡ false = ne_eqb vid v (λ e. ne (sym e)) in
          elim (cases_Bool (eqb part.id id)) [
            | inl e ↦ rw e (rw (joined-serves vid added segment part v, away, last, rest) refl)
            | inr e ↦ rw (e, away, rest) refl
          ]
    ]

-- the partitions of other numbers
pub own-numbered : (next vid records : ℕ) (segment : Extent) (parts : List Part) (id : ℕ) (part : Part) → part_numbered id parts ≡ Some part → part_numbered id (parts ++ own_part next vid records segment ∷ []) ≡ Some part
own-numbered next vid records segment [] id part h = absurd cc
own-numbered next vid records segment (p ∷ parts) id part h =
    elim (cases_Bool (eqb p.id id)) [
      | inl e ↦ rw e (rw e at h)
      | inr e ↦ rw e (own-numbered next vid records segment parts id part (rw e at h))
    ]

pub join-numbered : (vid added id : ℕ) (segment : Extent) (parts : List Part) (other : ℕ) (part : Part) → (id ≡ other → ⊥) → part_numbered other parts ≡ Some part → part_numbered other (joined_at vid id added segment parts) ≡ Some part
join-numbered vid added id segment [] other part ne h = absurd cc
join-numbered vid added id segment (p ∷ parts) other part ne h =
    elim (cases_Bool (eqb p.id other)) [
      | inl e ↦
          let same : p.id ≡ other = eqb-true p.id other e in
          let away : eqb p.id id ≡ false = ne_eqb p.id id (λ is. ne (sym is ∙ same)) in
          rw (away, e) (rw e at h)
      | inr e ↦
          let rest = join-numbered vid added id segment parts other part ne (rw e at h) in
          elim (cases_Bool (eqb p.id id)) [
            | inl is ↦ rw (is, e) rest
            | inr not_so ↦ rw (not_so, e) rest
          ]
    ]

-- and none has the number 0
next-some : (least next : ℕ) (parts : List Part) → ArePartsFrom least next parts → least ≤ next
next-some least next [] h = h
next-some least next (part ∷ parts) h = let rest = next-some (suc part.id) next parts h.2 in let le = h.0 in omega (arith, rest, le)

pub own-zero : (next vid records : ℕ) (segment : Extent) (parts : List Part) → ArePartsFrom 1 next parts → part_numbered 0 (parts ++ own_part next vid records segment ∷ []) ≡ None
own-zero next vid records segment parts h = zero-from 1 parts h (omega arith)
  where
    zero-from : (least : ℕ) (parts : List Part) → ArePartsFrom least next parts → 1 ≤ least → part_numbered 0 (parts ++ own_part next vid records segment ∷ []) ≡ None
    zero-from least [] h some = rw (ne_eqb next 0 (λ e. absurd (let le = h in omega (arith, e, le, some)))) refl
    zero-from least (part ∷ parts) h some =
        let le = h.0 in
        rw (ne_eqb part.id 0 (λ e. absurd (omega (arith, e, le, some)))) (zero-from (suc part.id) parts h.2 (omega arith))

pub join-zero : (next vid added id : ℕ) (segment : Extent) (parts : List Part) → ArePartsFrom 1 next parts → part_numbered 0 (joined_at vid id added segment parts) ≡ None
join-zero next vid added id segment parts h = zero-from 1 parts h (omega arith)
  where
    zero-from : (least : ℕ) (parts : List Part) → ArePartsFrom least next parts → 1 ≤ least → part_numbered 0 (joined_at vid id added segment parts) ≡ None
    zero-from least [] h some = refl
    zero-from least (part ∷ parts) h some =
        let le = h.0 in
        let ne : eqb part.id 0 ≡ false = ne_eqb part.id 0 (λ e. absurd (omega (arith, e, le, some))) in
        let rest = zero-from (suc part.id) parts h.2 (omega arith) in
        elim (cases_Bool (eqb part.id id)) [
          | inl is ↦ rw (is, ne) rest
          | inr not_so ↦ rw (not_so, ne) rest
        ]

-- the partition that serves a version is the one of its number
pub serving-has : (least vid : ℕ) (parts : List Part) (part : Part) → Ascend least (numbers_of parts) → is_placed parts vid ≡ true → part_numbered (id_in (part_serving (map part_in parts) vid)) parts ≡ Some part → has part.versions vid ≡ true
serving-has least vid [] part h there found = absurd cc
serving-has least vid (p ∷ parts) part h there found =
    elim (cases_Bool (serves vid p)) [
      | inl e ↦
          let is : id_in (part_serving (map part_in (p ∷ parts)) vid) ≡ p.id = rw e refl in
          let own : part_numbered p.id (p ∷ parts) ≡ Some part = subst (λ (n : ℕ). part_numbered n (p ∷ parts) ≡ Some part) is found in
          let first : Some p ≡ Some part = rw (eq-eqb p.id p.id refl) at own in
          let same : p ≡ part = cc in
          ap (λ (x : Part). has x.versions vid) (sym same) ∙ e
      | inr e ↦
          let placed : is_placed parts vid ≡ true = rw e at there in
          let id = id_in (part_serving (map part_in parts) vid) in
          let is : id_in (part_serving (map part_in (p ∷ parts)) vid) ≡ id_in (part_serving (map part_in parts) vid) = rw e refl in
          let later : part_numbered id (p ∷ parts) ≡ Some part = subst (λ (n : ℕ). part_numbered n (p ∷ parts) ≡ Some part) is found in
          let ne : eqb p.id id ≡ false = ne_eqb p.id id (λ same. before p.id id (numbers_of parts) h.1 same (numbers-has id parts (serving-there vid parts placed))) in
          serving-has (suc p.id) vid parts part h.1 placed (rw ne at later)
    ]
  where
    numbers-has : (id : ℕ) (parts : List Part) → is_number parts id ≡ true → has (numbers_of parts) id ≡ true
    numbers-has id [] h = h
    numbers-has id (part ∷ parts) h =
        elim (cases_Bool (eqb part.id id)) [
          | inl e ↦ rw e refl
          | inr e ↦ rw e (numbers-has id parts (rw e at h))
        ]

    before : (n id : ℕ) (ids : List ℕ) → Ascend (suc n) ids → n ≡ id → has ids id ≡ true → ⊥
    before n id ids h same there = let out = has-below (suc n) ids id h (omega (arith, same)) in absurd cc
