-- What the tests of a Whole's partitions say of a draft's: what a layout asks of them, and what is true of each dataset's.
use Rattle.std.proofs.Common.{◌≡◌, ℕ, zero, suc, ◌+◌, ◌-◌, ◌^◌, ◌<◌, ◌≤◌, Bool, true, false, not, cond, ◌||◌, ◌&&◌, eqb, List, [], ◌∷◌, length, map, refl, sym, ap, subst, ◌∙◌, inl, inr, arith, zero-add}
use Rattle.std.specs.Prelude.{Option, Some, None, All, nat_le, nat_lt, if◌then◌else◌}
use Rattle.std.specs.List.{list_all, list_any}
use Rattle.std.proofs.lemmas.Bool.{cases_Bool, and_parts, eqb-true, leb-true, ltb-true}
use Rattle.std.proofs.lemmas.List.{length-map}
use Rattle.std.proofs.lemmas.List.Sums.{sum_by-cons}
use Rattle.ov_host.specs.declared.area.Extent.{Extent}
use Rattle.ov_layout.specs.declared.part.Part.{Part}
use Rattle.ov_layout.specs.Changes.{IsNew, IsAbove}
use Rattle.ov_layout.specs.Index.{numbers_of}
use Rattle.ov_layout.specs.Leaving.{VersionsAscend}
use Rattle.ov_layout.specs.Parts.{AreParts, ArePartsFrom, Ascend, IsPart, has, serves, is_placed, part_numbered, times_placed}
use Rattle.ov_layout.proofs.PlacedLemmas.{times-cons}
use Rattle.ov_layout.proofs.VidLemmas.{Ascend-weaker, has-below}
use Rattle.ov_layout.proofs.FlipLemmas.{numbered-none}
use Rattle.ov_model.specs.Records.{counted}
use Rattle.ov_catalog.specs.declared.cvd.Plan.{Plan}
use Rattle.ov_catalog.specs.declared.draft.Draft.{Draft}
use Rattle.ov_catalog.specs.Drafts.{draft_in}
use Rattle.ov_catalog.specs.Events.{is_one}
use Rattle.ov_catalog.specs.Numbers.{PartNumbers, SetNumbers, TargetNumbers}
use Rattle.ov_catalog.specs.Planning.{ascend_from, meets}
use Rattle.ov_catalog.specs.Running as running
use Rattle.ov_catalog.specs.Running.{left_of}
use Rattle.ov_catalog.specs.Seen.{AscendWithin}
use Rattle.ov_catalog.specs.Sets.{part_in, plan_in, target_in, version_in}
use Rattle.ov_catalog.specs.Wholes.{are_parts, are_there, is_part, parts_serving, targets_left}
use Rattle.ov_catalog.proofs.SplitLemmas.{from-one}
use Rattle.ov_catalog.proofs.TargetLemmas.{ascend-in, from-in}

-- ---- lists

pub all-at : (test : ℕ → Bool) (ns : List ℕ) (n : ℕ) → list_all test ns ≡ true → has ns n ≡ true → test n ≡ true
all-at test [] n all there = absurd cc
all-at test (m ∷ ns) n all there =
    let both = and_parts (test m) (list_all test ns) all in
    elim (cases_Bool (eqb m n)) [
      | inl e ↦ ap test (sym (eqb-true m n e)) ∙ both.0
      | inr e ↦ all-at test ns n both.1 (rw e at there)
    ]

pub counted-at : (test : ℕ → Bool) (from count n : ℕ) → list_all test (counted from count) ≡ true → from ≤ n → n < from + count → test n ≡ true
counted-at test from zero n all le lt = absurd (omega (arith, le, lt))
counted-at test from (suc count) n all le lt =
    let both = and_parts (test from) (list_all test (counted (from + 1) count)) all in
    elim (cases_Bool (eqb from n)) [
      | inl e ↦ ap test (sym (eqb-true from n e)) ∙ both.0
      | inr e ↦ counted-at test (from + 1) count n both.1 (further from n e le) (omega (arith, lt))
    ]
  where
    further : (a b : ℕ) → eqb a b ≡ false → a ≤ b → a + 1 ≤ b
    further a b e le = grind (arith, e, le)

pub some-length : (ns : List ℕ) → not (eqb (length ns) 0) ≡ true → 0 < length ns
some-length [] h = absurd cc
some-length (n ∷ ns) h = omega arith

above-of : (count : ℕ) (ns : List ℕ) → list_all (λ vid. nat_le vid count) ns ≡ true → IsAbove (count + 1) ns
above-of count [] all = tt
above-of count (n ∷ ns) all =
    let both = and_parts (nat_le n count) (list_all (λ vid. nat_le vid count) ns) all in
    let le = leb-true n count both.0 in
    (omega (arith, le), above-of count ns both.1)

pub any-seen : (us : List TargetNumbers) (vids : List ℕ) → list_any (λ (u : TargetNumbers). meets u.versions vids) us ≡ list_any (λ other. meets other vids) (map (λ (u : TargetNumbers). u.versions) us)
any-seen [] vids = refl
any-seen (u ∷ us) vids = ap (λ (b : Bool). meets u.versions vids || b) (any-seen us vids)

-- ---- a partition

-- what its test says
record Tested (count : ℕ) (part : Part) : Type 0 where
  some : 0 < length part.versions
  versions : Ascend 1 part.versions
  holds : Ascend 1 part.holds
  held : (vid : ℕ) → has part.versions vid ≡ true → has part.holds vid ≡ true
  there : list_all (λ vid. nat_le vid count) part.holds ≡ true

tested : (count records : ℕ) (part : Part) → is_part count records (part_in part) ≡ true → Tested count part
tested count records part is =
    let halves = and_parts (not (eqb (length part.versions) 0) && list_all (is_one part.holds) part.versions) ((ascend_from 1 part.versions && are_there count part.holds) && nat_le part.records records) is in
    let served = and_parts (not (eqb (length part.versions) 0)) (list_all (is_one part.holds) part.versions) halves.0 in
    let sorted = and_parts (ascend_from 1 part.versions && are_there count part.holds) (nat_le part.records records) halves.1 in
    let both = and_parts (ascend_from 1 part.versions) (are_there count part.holds) sorted.0 in
    let holds = and_parts (ascend_from 1 part.holds) (list_all (λ vid. nat_le vid count) part.holds) both.1 in
    record {
      some = some-length part.versions served.0;
      versions = ascend-in 1 part.versions both.0;
      holds = ascend-in 1 part.holds holds.0;
      held = λ vid there. all-at (is_one part.holds) part.versions vid served.1 there;
      there = holds.1;
    }

part-of : (count : ℕ) (part : Part) → Tested count part → IsPart part
part-of count part is = record {
  versions = Ascend-weaker 0 1 part.versions (omega arith) is.versions;
  some = is.some;
  holds = Ascend-weaker 0 1 part.holds (omega arith) is.holds;
  held = is.held;
}

-- ---- all of them

pub serving-times : (parts : List Part) (vid : ℕ) → parts_serving (map part_in parts) vid ≡ times_placed vid parts
serving-times [] vid = refl
serving-times (part ∷ parts) vid =
    sum_by-cons (λ (p : PartNumbers Extent). if is_one p.versions vid then 1 else 0) (part_in part) (map part_in parts)
    ∙ (λ i. same (serves vid part) i + serving-times parts vid i) ∙ sym (times-cons vid part parts)
  where
    same : (b : Bool) → ◌≡◌ {A = ℕ} (if b then 1 else 0) (cond b 1 0)
    same true = refl
    same false = refl

pub unplaced-times : (vid : ℕ) (parts : List Part) → is_placed parts vid ≡ false → times_placed vid parts ≡ 0
unplaced-times vid [] out = refl
unplaced-times vid (part ∷ parts) out =
    elim (cases_Bool (serves vid part)) [
      | inl e ↦ let no = rw e at out in absurd cc
      | inr e ↦ times-cons vid part parts ∙ (rw e (zero-add (times_placed vid parts) ∙ unplaced-times vid parts (rw e at out)))
    ]

module _ (count records : ℕ) where
  abbrev AreTested : List Part → Type 0
  AreTested parts = list_all (is_part count records) (map part_in parts) ≡ true

  first-of : (part : Part) (parts : List Part) → AreTested (part ∷ parts) → Tested count part × AreTested parts
  first-of part parts each =
      let both = and_parts (is_part count records (part_in part)) (list_all (is_part count records) (map part_in parts)) each in
      (tested count records part both.0, both.1)

  pub placed-within : (parts : List Part) → AreTested parts → (vid : ℕ) → is_placed parts vid ≡ true → (1 ≤ vid) × (vid ≤ count)
  placed-within [] each vid there = absurd cc
  placed-within (part ∷ parts) each vid there =
      let own = first-of part parts each in
      elim (cases_Bool (serves vid part)) [
        | inl e ↦ (from-one 1 part.versions vid own.0.versions e, leb-true vid count (all-at (λ v. nat_le v count) part.holds vid own.0.there (own.0.held vid e)))
        | inr e ↦ placed-within parts own.1 vid (rw e at there)
      ]

  new-of : (parts : List Part) → AreTested parts → IsNew (count + 1) parts
  new-of [] each = tt
  new-of (part ∷ parts) each = let own = first-of part parts each in (above-of count part.holds own.0.there, new-of parts own.1)

  versions-of : (parts : List Part) → AreTested parts → All VersionsAscend parts
  versions-of [] each k e lt = absurd (omega arith)
  versions-of (part ∷ parts) each zero e lt = Ascend-weaker 0 1 part.versions (omega arith) (first-of part parts each).0.versions
  versions-of (part ∷ parts) each (suc k) e lt = versions-of parts (first-of part parts each).1 k e (omega arith)

  sound-from : (least next : ℕ) (parts : List Part) → least ≤ next → Ascend least (numbers_of parts) → list_all (λ part. nat_lt part.id next) (map part_in parts) ≡ true → AreTested parts
      → ArePartsFrom least next parts
  sound-from least next [] le up below each = le
  sound-from least next (part ∷ parts) le up below each =
      let low = and_parts (nat_lt part.id next) (list_all (λ part. nat_lt part.id next) (map part_in parts)) below in
      let own = first-of part parts each in
      let lt = ltb-true part.id next low.0 in
      (up.0, part-of count part own.0, sound-from (suc part.id) next parts (omega (arith, lt)) up.1 low.1 own.1)

pub ids-seen : (parts : List Part) → map (λ (part : PartNumbers Extent). part.id) (map part_in parts) ≡ numbers_of parts
ids-seen [] = refl
ids-seen (part ∷ parts) = ap (λ (ns : List ℕ). part.id ∷ ns) (ids-seen parts)

-- some version is in a partition, whose number is below the next one
next-some : (next : ℕ) (parts : List Part) → times_placed 1 parts ≡ 1 → Ascend 1 (numbers_of parts) → list_all (λ part. nat_lt part.id next) (map part_in parts) ≡ true → 1 ≤ next
next-some next [] once up below = absurd (omega (arith, once))
next-some next (part ∷ parts) once up below =
    let low = and_parts (nat_lt part.id next) (list_all (λ part. nat_lt part.id next) (map part_in parts)) below in
    let lt = ltb-true part.id next low.0 in
    let le = up.0 in
    omega (arith, lt, le)

pub left-seen : (plan : Option Plan) → length (targets_left (plan_in plan)) ≡ length (left_of plan)
left-seen None = refl
left-seen (Some plan) = ap (λ (ts : List TargetNumbers). length ts) (from-in plan.at plan.targets) ∙ length-map (running.targets_left plan) target_in

-- ---- of a draft

module _ (d : Draft) (are : are_parts (draft_in d) ≡ true) where
  abbrev seen : SetNumbers Extent Extent
  seen = draft_in d

  abbrev parts : List Part
  parts = d.parts.items

  abbrev count : ℕ
  count = length d.versions.items

  halves : ((ascend_from 1 (map (λ part. part.id) seen.parts) && list_all (λ part. nat_lt part.id d.next) seen.parts) ≡ true)
      × (((list_all (λ vid. eqb (parts_serving seen.parts vid) 1) (counted 1 (length seen.versions)) && list_all (is_part (length seen.versions) d.records) seen.parts)
      && nat_lt (d.next + length (targets_left seen.plan) + (65535 - length seen.versions)) (2 ^ 32)) ≡ true)
  halves = and_parts _ _ are

  up : Ascend 1 (numbers_of parts)
  up = subst (λ (ns : List ℕ). Ascend 1 ns) (ids-seen parts) (ascend-in 1 _ (and_parts _ _ halves.0).0)

  below : list_all (λ part. nat_lt part.id d.next) seen.parts ≡ true
  below = (and_parts (ascend_from 1 (map (λ part. part.id) seen.parts)) _ halves.0).1

  long : length seen.versions ≡ count
  long = length-map d.versions.items version_in

  each : list_all (is_part count d.records) seen.parts ≡ true
  each = subst (λ (n : ℕ). list_all (is_part n d.records) seen.parts ≡ true) long (and_parts _ _ (and_parts _ _ halves.1).0).1

  once-at : (vid : ℕ) → 1 ≤ vid → vid ≤ count → times_placed vid parts ≡ 1
  once-at vid one le =
      let all = subst (λ (n : ℕ). list_all (λ vid. eqb (parts_serving seen.parts vid) 1) (counted 1 n) ≡ true) long (and_parts _ _ (and_parts _ _ halves.1).0).0 in
      sym (serving-times parts vid) ∙ eqb-true _ _ (counted-at (λ v. eqb (parts_serving seen.parts v) 1) 1 count vid all one (omega (arith, le)))

  pub parts-within : AscendWithin (count + 1) parts
  parts-within = record {
    numbers = Ascend-weaker 0 1 (numbers_of parts) (omega arith) up;
    versions = versions-of count d.records parts each;
    below = λ vid there. let within = placed-within count d.records parts each vid there in let le = within.1 in omega (arith, le);
  }

  pub parts-sound : 1 ≤ count → AreParts parts d.next
  parts-sound some = record {
    sound = sound-from count d.records 1 d.next parts (next-some d.next parts (once-at 1 (omega arith) some) up below) up below each;
    once = λ vid.
        elim (cases_Bool (is_placed parts vid)) [
          | inl e ↦ let within = placed-within count d.records parts each vid e in let once = once-at vid within.0 within.1 in omega (arith, once)
          | inr e ↦ let none = unplaced-times vid parts e in omega (arith, none)
        ];
  }

  pub parts-zero_none : part_numbered 0 parts ≡ None
  parts-zero_none = numbered-none parts 0 (has-below 1 (numbers_of parts) 0 up (omega arith))

  pub parts-new : IsNew (count + 1) parts
  parts-new = new-of count d.records parts each

  pub parts-placed : (vid : ℕ) → 1 ≤ vid → vid ≤ count → is_placed parts vid ≡ true
  parts-placed vid one le =
      elim (cases_Bool (is_placed parts vid)) [
        | inl e ↦ e
        | inr e ↦ let none = unplaced-times vid parts e in let once = once-at vid one le in absurd (omega (arith, none, once))
      ]

  pub parts-none_other : is_placed parts 0 ≡ false
  parts-none_other =
      elim (cases_Bool (is_placed parts 0)) [
        | inl e ↦ let within = placed-within count d.records parts each 0 e in let no_zero = within.0 in absurd (omega (arith, no_zero))
        | inr e ↦ e
      ]

  room : d.next + length (targets_left seen.plan) + (65535 - length seen.versions) < 2 ^ 32
  room = ltb-true (d.next + length (targets_left seen.plan) + (65535 - length seen.versions)) (2 ^ 32) (and_parts _ _ halves.1).1

  pub parts-next : d.next + length (left_of d.plan) + 65535 < 2 ^ 32 + count
  parts-next =
      let few = room in
      let left = left-seen d.plan in
      let size = long in
      omega (arith, few, left, size)
