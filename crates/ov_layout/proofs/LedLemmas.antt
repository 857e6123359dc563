-- The partitions that lose their first versions have at least the segments that a flip gives up.
use Rattle.std.proofs.Common.{◌≡◌, ℕ, zero, suc, ◌+◌, ◌<◌, ◌≤◌, Bool, true, false, not, cond, ◌||◌, All, eqb, Some, List, [], ◌∷◌, length, refl, sym, ◌∙◌, ap, inl, inr, arith}
use Rattle.std.specs.Prelude.{filter, sum_by}
use Rattle.std.proofs.lemmas.Bool.{cases_Bool, or_parts, eqb-true, eqb-false, ne_eqb}
use Rattle.std.proofs.lemmas.List.{length-append}
use Rattle.std.proofs.lemmas.List.Sums.{sum_by-cons}
use Rattle.ov_host.specs.declared.area.Extent.{Extent}
use Rattle.ov_layout.specs.declared.part.Part.{Part}
use Rattle.ov_layout.specs.Parts.{has, serves, part_with, times_placed, ArePartsFrom}
use Rattle.ov_layout.specs.Leaving.{is_led, led_by}
use Rattle.ov_layout.specs.Flips.{Flip, leaving, is_empty, others, parted_with, given_up}
use Rattle.ov_layout.proofs.PlacedLemmas.{times-cons, one-yes, one-no}

-- the segments of the partitions whose first versions are among these
abbrev pub led : List ℕ → List Part → ℕ
led versions parts = sum_by (λ part. cond (is_led versions part.versions) (length part.segments) 0) parts

led-cons : (versions : List ℕ) (part : Part) (parts : List Part) → led versions (part ∷ parts) ≡ cond (is_led versions part.versions) (length part.segments) 0 + led versions parts
led-cons versions part parts = sum_by-cons (λ (p : Part). cond (is_led versions p.versions) (length p.segments) 0) part parts

pub others-few : (at : ℕ) (kept : List ℕ) (extents : List Extent) → length (others at kept extents) ≤ length extents
others-few at kept [] = omega arith
others-few at kept (e ∷ extents) =
    let rest = others-few (suc at) kept extents in
    elim (cases_Bool (has kept at)) [ inl is ↦ rw is (omega arith) | inr isnt ↦ rw isnt (omega arith) ]

parted-few : (flip : Flip) (part : Part) → length (parted_with flip part) ≤ length part.segments
parted-few flip part =
    elim (cases_Bool (eqb part.id flip.source)) [
      | inl is ↦ rw is (others-few 0 flip.kept part.segments)
      | inr isnt ↦ rw isnt (omega arith)
    ]

-- a partition that loses all its versions loses its first one
first-left : (versions vids : List ℕ) → 0 < length vids → eqb (length (filter (λ vid. not (has versions vid)) vids)) 0 ≡ true → is_led versions vids ≡ true
first-left versions [] some gone = absurd (omega arith)
first-left versions (vid ∷ vids) some gone =
    elim (cases_Bool (has versions vid)) [
      | inl is ↦ is
      | inr isnt ↦ absurd (let h = rw isnt at gone in let e = eqb-true (suc (length (filter (λ v. not (has versions v)) vids))) 0 h in omega arith)
    ]

abbrev pub AllSome : List Part → Type 0
AllSome [] = Unit {0}
AllSome (part ∷ parts) = (0 < length part.versions) × AllSome parts

pub given-few : (flip : Flip) (parts : List Part) → AllSome parts → length (given_up flip parts) ≤ led flip.versions parts
given-few flip [] some = omega arith
given-few flip (part ∷ parts) some =
    let rest = given-few flip parts some.1 in
    let all = led-cons flip.versions part parts in
    elim (cases_Bool (is_empty (leaving flip.versions part))) [
      | inl gone ↦
          let own = one-yes (is_led flip.versions part.versions) (length part.segments) (first-left flip.versions part.versions some.0 gone) in
          let few = parted-few flip part in
          let long = length-append (parted_with flip part) (given_up flip parts) in
          rw gone (omega arith)
      | inr stays ↦ rw stays (omega arith)
    ]

-- one more version adds the segments of the partition that it is the first of
module _ (fewer more : List ℕ) (vid : ℕ) (adds : (n : ℕ) → has more n ≡ (has fewer n || eqb vid n)) where
  same-first : (vids : List ℕ) → has vids vid ≡ false → is_led more vids ≡ is_led fewer vids
  same-first [] out = refl
  same-first (n ∷ vids) out =
      let other = (or_parts (eqb n vid) (has vids vid) out).0 in
      adds n ∙ ap (λ (b : Bool). has fewer n || b) (ne_eqb vid n (λ e. eqb-false n vid other (sym e))) ∙ or-no (has fewer n)
    where
      or-no : (b : Bool) → (b || false) ≡ b
      or-no true = refl
      or-no false = refl

  led-same : (parts : List Part) → times_placed vid parts ≡ 0 → led more parts ≡ led fewer parts
  led-same [] none = refl
  led-same (part ∷ parts) none =
      let times = times-cons vid part parts in
      elim (cases_Bool (serves vid part)) [
        | inl is ↦ absurd (let one = one-yes (serves vid part) 1 is in omega (arith, times, one, none))
        | inr isnt ↦
            let rest = led-same parts (let zero : times_placed vid parts ≡ 0 = omega (arith, times, none) in zero) in
            led-cons more part parts ∙ rw (same-first part.versions isnt, rest) (sym (led-cons fewer part parts))
      ]

  one-more : (part : Part) → cond (is_led more part.versions) (length part.segments) 0 ≤ cond (is_led fewer part.versions) (length part.segments) 0 + led_by vid (Some part)
  one-more part = first part.versions (length part.segments)
    where
      first : (vids : List ℕ) (n : ℕ) → cond (is_led more vids) n 0 ≤ cond (is_led fewer vids) n 0 + cond (is_led (vid ∷ []) vids) n 0
      first [] n = omega arith
      first (v ∷ vids) n =
          elim (cases_Bool (has fewer v)) [
            | inl was ↦ elim (cases_Bool (has more v)) [ inl is ↦ rw (is, was) (omega arith) | inr isnt ↦ rw (isnt, was) (omega arith) ]
            | inr wasnt ↦ elim (cases_Bool (eqb vid v)) [
              | inl same ↦ rw (adds v, wasnt, same) (omega arith)
              | inr other ↦ rw (adds v, wasnt, other) (omega arith)
            ]
          ]

  pub led-more : (parts : List Part) → times_placed vid parts ≤ 1 → led more parts ≤ led fewer parts + led_by vid (part_with vid parts)
  led-more [] once = omega arith
  led-more (part ∷ parts) once =
      let times = times-cons vid part parts in
      let a = led-cons more part parts in
      let b = led-cons fewer part parts in
      elim (cases_Bool (serves vid part)) [
        | inl is ↦
            let one = one-yes (serves vid part) 1 is in
            let rest = led-same parts (let zero : times_placed vid parts ≡ 0 = omega (arith, times, one, once) in zero) in
            let here = one-more part in
            rw is (omega (arith, a, b, rest, here))
        | inr isnt ↦
            let none = one-no (serves vid part) 1 isnt in
            let rest = led-more parts (let few : times_placed vid parts ≤ 1 = omega (arith, times, none, once) in few) in
            let here : cond (is_led more part.versions) (length part.segments) 0 ≡ cond (is_led fewer part.versions) (length part.segments) 0 = ap (λ (t : Bool). cond t (length part.segments) 0) (same-first part.versions isnt) in
            rw isnt (omega (arith, a, b, rest, here))
      ]

pub all-some : (least next : ℕ) (parts : List Part) → ArePartsFrom least next parts → AllSome parts
all-some least next [] h = tt
all-some least next (part ∷ parts) h = (h.1.some, all-some (suc part.id) next parts h.2)

-- and so none is empty
pub none-empty-yet : (least next : ℕ) (parts : List Part) → ArePartsFrom least next parts → All (λ p. is_empty p ≡ false) parts
none-empty-yet least next [] h k d lt = absurd (omega arith)
none-empty-yet least next (part ∷ parts) h zero d lt = let some = h.1.some in ne_eqb (length part.versions) 0 (λ e. absurd (omega arith))
none-empty-yet least next (part ∷ parts) h (suc k) d lt = none-empty-yet (suc part.id) next parts h.2 k d (omega arith)

pub led-none : (parts : List Part) → led [] parts ≡ 0
led-none [] = refl
led-none (part ∷ parts) =
    let rest = led-none parts in
    let all = led-cons [] part parts in
    let none : cond (is_led [] part.versions) (length part.segments) 0 ≡ 0 = ap (λ (b : Bool). cond b (length part.segments) 0) (no-one part.versions) in
    omega (arith, all, rest, none)
  where
    no-one : (vids : List ℕ) → is_led [] vids ≡ false
    no-one [] = refl
    no-one (vid ∷ vids) = refl
