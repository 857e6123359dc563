-- Where versions are placed.
use Rattle.std.proofs.Common.{◌≡◌, ℕ, zero, suc, ◌+◌, ◌<◌, ◌≤◌, ◌⊎◌, Bool, true, false, cond, ◌||◌, eqb, List, [], ◌∷◌, length, get_or, refl, sym, ap, subst, ◌∙◌, inl, inr, arith, zero-add}
use Rattle.std.specs.Prelude.{All, Some, None}
use Rattle.std.proofs.lemmas.Bool.{cases_Bool, eq-eqb, ne_eqb}
use Rattle.std.proofs.lemmas.List.Sums.{sum_by-cons}
use Rattle.ov_layout.specs.declared.part.Part.{Part}
use Rattle.ov_layout.specs.Parts.{has, serves, Ascend, ArePartsFrom, times_placed, part_with, is_number, is_placed}
use Rattle.ov_layout.specs.Index.{number_of, numbers_of}
use Rattle.ov_layout.specs.Changes.{IsNew, IsAbove}
use Rattle.ov_layout.specs.Leaving.{IsOwned, VersionsAscend}
use Rattle.ov_layout.proofs.VidLemmas.{keys-strict}

or-true : (b : Bool) → (b || true) ≡ true
or-true true = refl
or-true false = refl

pub times-cons : (vid : ℕ) (part : Part) (parts : List Part) → times_placed vid (part ∷ parts) ≡ cond (serves vid part) 1 0 + times_placed vid parts
times-cons vid part parts = sum_by-cons (λ (p : Part). cond (serves vid p) 1 0) part parts

pub number-cons : (vid : ℕ) (part : Part) (parts : List Part) → number_of vid (part ∷ parts) ≡ cond (serves vid part) part.id 0 + number_of vid parts
number-cons vid part parts = sum_by-cons (λ (p : Part). cond (serves vid p) p.id 0) part parts

-- the terms of a partition, by whether it serves a version
pub one-yes : (b : Bool) (n : ℕ) → b ≡ true → cond b n 0 ≡ n
one-yes true n e = refl
one-yes false n e = absurd cc

pub one-no : (b : Bool) (n : ℕ) → b ≡ false → cond b n 0 ≡ 0
one-no true n e = absurd cc
one-no false n e = refl

pub ids-ascend : (least next : ℕ) (parts : List Part) → ArePartsFrom least next parts → Ascend least (numbers_of parts)
ids-ascend least next [] h = tt
ids-ascend least next (part ∷ parts) h = (h.0, ids-ascend (suc part.id) next parts h.2)

pub versions-ascend : (least next : ℕ) (parts : List Part) → ArePartsFrom least next parts → All VersionsAscend parts
versions-ascend least next [] h k d lt = absurd (omega arith)
versions-ascend least next (part ∷ parts) h zero d lt = h.1.versions
versions-ascend least next (part ∷ parts) h (suc k) d lt = versions-ascend (suc part.id) next parts h.2 k d (omega arith)

-- a version that is in no partition has no number
pub times-none : (vid : ℕ) (parts : List Part) → times_placed vid parts ≡ 0 → number_of vid parts ≡ 0
times-none vid [] h = refl
times-none vid (part ∷ parts) h =
    let times = times-cons vid part parts in
    let number = number-cons vid part parts in
    elim (cases_Bool (serves vid part)) [
      | inl e ↦ let one = one-yes (serves vid part) 1 e in absurd (omega (arith, times, one, h))
      | inr e ↦
          let none = one-no (serves vid part) 1 e in
          let term = one-no (serves vid part) part.id e in
          let rest = times-none vid parts (let zero : times_placed vid parts ≡ 0 = omega (arith, times, none, h) in zero) in
          omega (arith, number, term, rest)
    ]

-- the number of the partition that serves a version, if it is in one partition
pub number-first : (vid : ℕ) (part : Part) (parts : List Part) → times_placed vid (part ∷ parts) ≤ 1 → serves vid part ≡ true → number_of vid (part ∷ parts) ≡ part.id
number-first vid part parts once e =
    let times = times-cons vid part parts in
    let one = one-yes (serves vid part) 1 e in
    let term = one-yes (serves vid part) part.id e in
    let rest = times-none vid parts (let zero : times_placed vid parts ≡ 0 = omega (arith, times, one, once) in zero) in
    number-cons vid part parts ∙ (let all : cond (serves vid part) part.id 0 + number_of vid parts ≡ part.id = omega (arith, term, rest) in all)

pub number-later : (vid : ℕ) (part : Part) (parts : List Part) → serves vid part ≡ false → number_of vid (part ∷ parts) ≡ number_of vid parts
number-later vid part parts e = number-cons vid part parts ∙ ap (λ (n : ℕ). n + number_of vid parts) (one-no (serves vid part) part.id e) ∙ zero-add _

pub once-rest : (vid : ℕ) (part : Part) (parts : List Part) → times_placed vid (part ∷ parts) ≤ 1 → times_placed vid parts ≤ 1
once-rest vid part parts once = let times = times-cons vid part parts in omega (arith, times, once)

-- a number is 0 or one of the partitions'
number-least : (least vid : ℕ) (parts : List Part) → Ascend least (numbers_of parts) → times_placed vid parts ≤ 1 → (number_of vid parts ≡ 0) ⊎ (least ≤ number_of vid parts)
number-least least vid [] h once = inl refl
number-least least vid (part ∷ parts) h once =
    elim (cases_Bool (serves vid part)) [
      | inl e ↦ let own = number-first vid part parts once e in let le = h.0 in inr (omega (arith, own, le))
      | inr e ↦
          let later = number-later vid part parts e in
          elim (number-least (suc part.id) vid parts h.1 (once-rest vid part parts once)) [
            | inl none ↦ inl (later ∙ none)
            | inr le ↦ let from = h.0 in inr (omega (arith, later, le, from))
          ]
    ]

pub number-there : (vid : ℕ) (parts : List Part) → times_placed vid parts ≤ 1 → 1 ≤ number_of vid parts → has (numbers_of parts) (number_of vid parts) ≡ true
number-there vid [] once some = absurd (omega arith)
number-there vid (part ∷ parts) once some =
    elim (cases_Bool (serves vid part)) [
      | inl e ↦ subst (λ (n : ℕ). has (part.id ∷ numbers_of parts) n ≡ true) (sym (number-first vid part parts once e)) (rw (eq-eqb part.id part.id refl) refl)
      | inr e ↦
          let later = number-later vid part parts e in
          let rest = number-there vid parts (once-rest vid part parts once) (let le : 1 ≤ number_of vid parts = omega (arith, later, some) in le) in
          subst (λ (n : ℕ). has (part.id ∷ numbers_of parts) n ≡ true) (sym later) (rw rest (or-true (eqb part.id (number_of vid parts))))
    ]

-- the partition that serves a version, by its number
pub find-none : (least vid : ℕ) (parts : List Part) → 1 ≤ least → Ascend least (numbers_of parts) → number_of vid parts ≡ 0 → part_with vid parts ≡ None
find-none least vid [] some h none = refl
find-none least vid (part ∷ parts) some h none =
    elim (cases_Bool (serves vid part)) [
      | inl e ↦
          let number = number-cons vid part parts in
          let term = one-yes (serves vid part) part.id e in
          let le = h.0 in
          absurd (omega (arith, number, term, none, le))
      | inr e ↦ rw e (find-none (suc part.id) vid parts (omega arith) h.1 (sym (number-later vid part parts e) ∙ none))
    ]

pub find-some : (least vid at : ℕ) (parts : List Part) (d : Part) → 1 ≤ least → Ascend least (numbers_of parts) → times_placed vid parts ≤ 1 → at < length parts → (get_or parts at d).id ≡ number_of vid parts → part_with vid parts ≡ Some (get_or parts at d)
find-some least vid at [] d some h once lt e = absurd (omega arith)
find-some least vid zero (part ∷ parts) d some h once lt e =
    elim (cases_Bool (serves vid part)) [
      | inl here ↦ rw here refl
      | inr away ↦
          let later = number-later vid part parts away in
          let le = h.0 in
          elim (number-least (suc part.id) vid parts h.1 (once-rest vid part parts once)) [
            | inl none ↦ absurd (omega (arith, later, none, e, le))
            | inr above ↦ absurd (omega (arith, later, above, e))
          ]
    ]
find-some least vid (suc at) (part ∷ parts) d some h once lt e =
    let above = keys-strict (λ (p : Part). p.id) (part ∷ parts) d least 0 (suc at) h (omega arith) lt in
    elim (cases_Bool (serves vid part)) [
      | inl here ↦ let own = number-first vid part parts once here in absurd (omega (arith, own, e, above))
      | inr away ↦ rw away (find-some (suc part.id) vid at parts d (omega arith) h.1 (once-rest vid part parts once) (omega arith) (e ∙ number-later vid part parts away))
    ]

pub placed-somewhere : (vid : ℕ) (parts : List Part) (k : ℕ) (d : Part) → k < length parts → serves vid (get_or parts k d) ≡ true → times_placed vid parts ≡ 0 → ⊥
placed-somewhere vid [] k d lt there none = absurd (omega arith)
placed-somewhere vid (part ∷ parts) zero d lt there none =
    let times = times-cons vid part parts in
    let one = one-yes (serves vid part) 1 there in
    absurd (omega (arith, times, one, none))
placed-somewhere vid (part ∷ parts) (suc k) d lt there none =
    let times = times-cons vid part parts in
    placed-somewhere vid parts k d (omega arith) there (let zero : times_placed vid parts ≡ 0 = omega (arith, times, none) in zero)

-- a partition that serves a version has the version's number
pub owned-by-number : (parts : List Part) → ((vid : ℕ) → times_placed vid parts ≤ 1) → All (IsOwned (λ vid. number_of vid parts)) parts
owned-by-number [] once k d lt vid there = absurd (omega arith)
owned-by-number (part ∷ parts) once zero d lt vid there = number-first vid part parts (once vid) there
owned-by-number (part ∷ parts) once (suc k) d lt vid there =
    let own = owned-by-number parts (λ v. once-rest v part parts (once v)) k d (omega arith) vid there in
    elim (cases_Bool (serves vid part)) [
      | inl e ↦
          let times = times-cons vid part parts in
          let one = one-yes (serves vid part) 1 e in
          let all = once vid in
          let none : times_placed vid parts ≡ 0 = omega (arith, times, one, all) in
          absurd (placed-somewhere vid parts k d (omega arith) there none)
      | inr e ↦ number-later vid part parts e ∙ own
    ]

-- a version above all that are held is in no partition
above-out : (vid v : ℕ) (vids : List ℕ) → IsAbove vid vids → vid ≤ v → has vids v ≡ false
above-out vid v [] h le = refl
above-out vid v (w ∷ vids) h le = let lt = h.0 in rw (ne_eqb w v (λ e. absurd (omega arith))) (above-out vid v vids h.1 le)

pub new-unplaced : (vid v least next : ℕ) (parts : List Part) → ArePartsFrom least next parts → IsNew vid parts → vid ≤ v → times_placed v parts ≡ 0
new-unplaced vid v least next [] sound h le = refl
new-unplaced vid v least next (part ∷ parts) sound h le =
    let times = times-cons v part parts in
    let rest = new-unplaced vid v (suc part.id) next parts sound.2 h.1 le in
    let out : serves v part ≡ false = elim (cases_Bool (serves v part)) [
      | inl e ↦ let held = sound.1.held v e in let free = above-out vid v part.holds h.0 le in absurd cc
      | inr e ↦ e
    ] in
    let none = one-no (serves v part) 1 out in
    omega (arith, times, rest, none)

-- what has a number by its name
pub numbered-there : (parts : List Part) (id : ℕ) → is_number parts id ≡ has (numbers_of parts) id
numbered-there [] id = refl
numbered-there (part ∷ parts) id = ap (λ (b : Bool). eqb part.id id || b) (numbered-there parts id)

pub placed-number : (least vid : ℕ) (parts : List Part) → 1 ≤ least → Ascend least (numbers_of parts) → is_placed parts vid ≡ true → 1 ≤ number_of vid parts
placed-number least vid [] some h there = absurd cc
placed-number least vid (part ∷ parts) some h there =
    let number = number-cons vid part parts in
    let le = h.0 in
    elim (cases_Bool (serves vid part)) [
      | inl e ↦ let term = one-yes (serves vid part) part.id e in omega (arith, number, term, le)
      | inr e ↦
          let rest = placed-number (suc part.id) vid parts (omega arith) h.1 (rw e at there) in
          omega (arith, number, rest)
    ]
