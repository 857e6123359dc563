-- Partitions with a version more: in one of its own behind the others, or in one that it joins.
--     own_parted, join_parted      what is asked of partitions holds of them then
use Rattle.std.proofs.Common.{◌≡◌, ◌<◌, ◌≤◌, ◌+◌, ◌-◌, ◌^◌, ℕ, Bool, true, false, cond, not, ◌&&◌, eqb, List, [], ◌∷◌, ◌++◌, length, map, refl, sym, ap, subst, ◌∙◌, inl, inr, arith}
use Rattle.std.specs.Prelude.{Some, nat_le, nat_lt}
use Rattle.std.specs.List.{list_all}
use Rattle.std.proofs.lemmas.Bool.{cases_Bool, cases_lt, cond-true, cond-false, and_from, and_parts, or_from, or_left, not_from_false, eq-eqb, ne_eqb, eqb-true, le-leb, leb-true, lt-ltb, ltb-true}
use Rattle.std.proofs.lemmas.List.{length_push, map_push}
use Rattle.std.proofs.lemmas.List.Folds.{list_all-map}
use Rattle.std.proofs.lemmas.List.Sums.{sum_by-cons, sum_by_push}
use Rattle.ov_host.specs.declared.area.Extent.{Extent}
use Rattle.ov_model.specs.Records.{counted}
use Rattle.ov_catalog.specs.Events.{is_one, own_part, with_joined, join_at}
use Rattle.ov_catalog.specs.Numbers.{PartNumbers, SetNumbers}
use Rattle.ov_catalog.specs.Planning.{ascend_from}
use Rattle.ov_catalog.specs.Testing.{part_serving, part_numbered, id_in}
use Rattle.ov_catalog.specs.Wholes.{are_there, are_parts, is_part, parts_serving, targets_left}
use Rattle.law_snapshots.proofs.Tests.{all_more, all_push, at_most, are_below, counted_at, counted_all, none_above, one_stays, one_last, one_other}
use Rattle.law_snapshots.proofs.PartTests.{all_at, ascend_last}

abbrev pub ids_of : List (PartNumbers Extent) → List ℕ
ids_of parts = map (λ part. part.id) parts

-- ---- partitions by their numbers

pub numbered_passes : (p : PartNumbers Extent → Bool) (parts : List (PartNumbers Extent)) (id : ℕ) (part : PartNumbers Extent) → list_all p parts ≡ true
    → part_numbered parts id ≡ Some part → p part ≡ true
numbered_passes p [] id part all found = absurd cc
numbered_passes p (x ∷ parts) id part all found =
    let both = and_parts (p x) (list_all p parts) all in
    elim (cases_Bool (eqb x.id id)) [
      | inl e ↦ let here : Some x ≡ Some part = rw e at found in let same : x ≡ part = cc in subst (λ (y : PartNumbers Extent). p y ≡ true) same both.0
      | inr e ↦ numbered_passes p parts id part both.1 (rw e at found)
    ]

pub numbered_id : (parts : List (PartNumbers Extent)) (id : ℕ) (part : PartNumbers Extent) → part_numbered parts id ≡ Some part → part.id ≡ id
numbered_id [] id part found = absurd cc
numbered_id (x ∷ parts) id part found =
    elim (cases_Bool (eqb x.id id)) [
      | inl e ↦ let here : Some x ≡ Some part = rw e at found in let same : x ≡ part = cc in ap (λ (y : PartNumbers Extent). y.id) (sym same) ∙ eqb-true x.id id e
      | inr e ↦ numbered_id parts id part (rw e at found)
    ]

-- the partition that serves a version is found by its number, since numbers ascend
pub record Serves (parts : List (PartNumbers Extent)) (vid least : ℕ) (part : PartNumbers Extent) : Type 0 where
  pub is : id_in (part_serving parts vid) ≡ part.id
  pub numbered : part_numbered parts part.id ≡ Some part
  pub has : is_one part.versions vid ≡ true
  pub low : least ≤ part.id

serving_cons : (part : PartNumbers Extent) (parts : List (PartNumbers Extent)) (vid : ℕ) → parts_serving (part ∷ parts) vid ≡ cond (is_one part.versions vid) 1 0 + parts_serving parts vid
serving_cons part parts vid = sum_by-cons (λ (x : PartNumbers Extent). cond (is_one x.versions vid) 1 0) part parts

serves_first : (x : PartNumbers Extent) (parts : List (PartNumbers Extent)) (vid least : ℕ) → least ≤ x.id → is_one x.versions vid ≡ true → Serves (x ∷ parts) vid least x
serves_first x parts vid least low here = record { is = rw here refl; numbered = rw (eq-eqb x.id x.id refl) refl; has = here; low = low }

serves_later : (x : PartNumbers Extent) (parts : List (PartNumbers Extent)) (vid least : ℕ) (part : PartNumbers Extent) → least ≤ x.id → is_one x.versions vid ≡ false
    → Serves parts vid (x.id + 1) part → Serves (x ∷ parts) vid least part
serves_later x parts vid least part low away is =
    let above = is.low in
    record { is = rw away is.is; numbered = rw (ne_eqb x.id part.id (λ same. omega (arith, same, above))) is.numbered; has = is.has; low = omega (arith, low, above) }

pub is_served : (parts : List (PartNumbers Extent)) (vid least : ℕ) → ascend_from least (ids_of parts) ≡ true → 1 ≤ parts_serving parts vid → (part : PartNumbers Extent) × Serves parts vid least part
is_served [] vid least rise some = absurd (omega (arith, some))
is_served (x ∷ parts) vid least rise some =
    let both = and_parts (nat_le least x.id) (ascend_from (x.id + 1) (ids_of parts)) rise in
    let low = leb-true least x.id both.0 in
    elim (cases_Bool (is_one x.versions vid)) [
      | inl here ↦ (x, serves_first x parts vid least low here)
      | inr away ↦
          let sum = serving_cons x parts vid in
          let none = cond-false {A = ℕ} (is_one x.versions vid) 1 0 away in
          let rest = is_served parts vid (x.id + 1) both.1 (omega (arith, sum, none, some)) in
          (rest.0, serves_later x parts vid least rest.0 low away rest.1)
    ]

-- ---- one partition

-- what a partition is tested for
record IsPart (count records : ℕ) (part : PartNumbers Extent) : Type 0 where
  some : not (eqb (length part.versions) 0) ≡ true
  held : list_all (is_one part.holds) part.versions ≡ true
  rise : ascend_from 1 part.versions ≡ true
  holds : ascend_from 1 part.holds ≡ true
  there : list_all (λ vid. nat_le vid count) part.holds ≡ true
  few : part.records ≤ records

part_facts : (count records : ℕ) (part : PartNumbers Extent) → is_part count records part ≡ true → IsPart count records part
part_facts count records part h =
    let halves = and_parts (not (eqb (length part.versions) 0) && list_all (is_one part.holds) part.versions) _ h in
    let has = and_parts (not (eqb (length part.versions) 0)) (list_all (is_one part.holds) part.versions) halves.0 in
    let rest = and_parts (ascend_from 1 part.versions && are_there count part.holds) (nat_le part.records records) halves.1 in
    let lists = and_parts (ascend_from 1 part.versions) (are_there count part.holds) rest.0 in
    let holds = and_parts (ascend_from 1 part.holds) (list_all (λ (vid : ℕ). nat_le vid count) part.holds) lists.1 in
    record { some = has.0; held = has.1; rise = lists.0; holds = holds.0; there = holds.1; few = leb-true part.records records rest.1 }

part_test : (count records : ℕ) (part : PartNumbers Extent) → IsPart count records part → is_part count records part ≡ true
part_test count records part is =
    and_from (not (eqb (length part.versions) 0) && list_all (is_one part.holds) part.versions) ((ascend_from 1 part.versions && are_there count part.holds) && nat_le part.records records)
    (and_from (not (eqb (length part.versions) 0)) (list_all (is_one part.holds) part.versions) is.some is.held)
    (and_from (ascend_from 1 part.versions && are_there count part.holds) (nat_le part.records records)
    (and_from (ascend_from 1 part.versions) (are_there count part.holds) is.rise (and_from (ascend_from 1 part.holds) (list_all (λ (vid : ℕ). nat_le vid count) part.holds) is.holds is.there))
    (le-leb part.records records is.few))

-- the versions that it serves are there, since it holds them
serves_there : (count records : ℕ) (part : PartNumbers Extent) → IsPart count records part → list_all (λ (vid : ℕ). nat_le vid count) part.versions ≡ true
serves_there count records part is =
    all_more (is_one part.holds) (λ (vid : ℕ). nat_le vid count) part.versions (λ vid one. all_at (λ (v : ℕ). nat_le v count) part.holds vid is.there one) is.held

-- with more versions and records there
part_more : (count more records all : ℕ) (part : PartNumbers Extent) → count ≤ more → records ≤ all → is_part count records part ≡ true → is_part more all part ≡ true
part_more count more records all part le few h =
    let is = part_facts count records part h in
    let own = is.few in
    part_test more all part (record { some = is.some; held = is.held; rise = is.rise; holds = is.holds; there = at_most count more part.holds le is.there; few = omega (arith, own, few) })

pub own_is_part : (count records id vid added : ℕ) (segments : List Extent) → 1 ≤ vid → vid ≤ count → added ≤ records → is_part count records (own_part id vid added segments) ≡ true
own_is_part count records id vid added segments some le few =
    let one = and_from (nat_le 1 vid) true (le-leb 1 vid some) refl in
    part_test count records (own_part id vid added segments) (record {
      some = refl;
      held = and_from (is_one (vid ∷ []) vid) true (or_left (eqb vid vid) false (eq-eqb vid vid refl)) refl;
      rise = one;
      holds = one;
      there = and_from (nat_le vid count) true (le-leb vid count le) refl;
      few = few;
    })

joined_is_part : (count records more all vid added : ℕ) (segments : List Extent) (part : PartNumbers Extent) → count < vid → vid ≤ more → part.records + added ≤ all → is_part count records part ≡ true
    → is_part more all (with_joined vid added segments part) ≡ true
joined_is_part count records more all vid added segments part lt le few h =
    let is = part_facts count records part h in
    let long = length_push part.versions vid in
    part_test more all (with_joined vid added segments part) (record {
      some = not_from_false (eqb (length (part.versions ++ vid ∷ [])) 0) (ne_eqb (length (part.versions ++ vid ∷ [])) 0 (λ same. omega (arith, same, long)));
      held =
          let holds = part.holds ++ vid ∷ [] in
          all_push (is_one holds) part.versions vid (all_more (is_one part.holds) (is_one holds) part.versions (λ v one. one_stays part.holds vid v one) is.held) (one_last part.holds vid);
      rise = ascend_last 1 vid part.versions is.rise (are_below count vid part.versions lt (serves_there count records part is)) (omega (arith, lt));
      holds = ascend_last 1 vid part.holds is.holds (are_below count vid part.holds lt is.there) (omega (arith, lt));
      there = all_push (λ (v : ℕ). nat_le v more) part.holds vid (at_most count more part.holds (omega (arith, lt, le)) is.there) (le-leb vid more le);
      few = few;
    })

-- ---- each version is in one partition

-- no partition serves one that isn't there
none_serves : (count records : ℕ) (parts : List (PartNumbers Extent)) (vid : ℕ) → list_all (is_part count records) parts ≡ true → count < vid → parts_serving parts vid ≡ 0
none_serves count records [] vid all lt = refl
none_serves count records (part ∷ parts) vid all lt =
    let both = and_parts (is_part count records part) (list_all (is_part count records) parts) all in
    let away = none_above count part.versions vid (serves_there count records part (part_facts count records part both.0)) lt in
    let own = cond-false {A = ℕ} (is_one part.versions vid) 1 0 away in
    let rest = none_serves count records parts vid both.1 lt in
    omega (arith, serving_cons part parts vid, own, rest)

-- so it is, with a new version, where this one is in one and the others stay
each_more : (count more : ℕ) (parts new : List (PartNumbers Extent)) → more ≡ count + 1 → ((vid : ℕ) → vid ≤ count → parts_serving new vid ≡ parts_serving parts vid)
    → parts_serving new (count + 1) ≡ 1
    → list_all (λ (vid : ℕ). eqb (parts_serving parts vid) 1) (counted 1 count) ≡ true → list_all (λ (vid : ℕ). eqb (parts_serving new vid) 1) (counted 1 more) ≡ true
each_more count more parts new is stay last each =
    counted_all (λ (vid : ℕ). eqb (parts_serving new vid) 1) 1 more (λ vid some lt. eq-eqb (parts_serving new vid) 1 (at vid some (omega (arith, is, lt))))
  where
    old : (vid : ℕ) → 1 ≤ vid → vid ≤ count → parts_serving new vid ≡ 1
    old vid some le = stay vid le ∙ eqb-true (parts_serving parts vid) 1 (counted_at (λ (v : ℕ). eqb (parts_serving parts v) 1) 1 count vid each some (omega (arith, le)))

    at : (vid : ℕ) → 1 ≤ vid → vid ≤ count + 1 → parts_serving new vid ≡ 1
    at vid some le =
        elim (cases_lt count vid) [
          | inl above ↦ let same : count + 1 ≡ vid = omega (arith, above, le) in subst (λ (v : ℕ). parts_serving new v ≡ 1) same last
          | inr low ↦ old vid some low
        ]

serving_push : (parts : List (PartNumbers Extent)) (part : PartNumbers Extent) (vid : ℕ) → parts_serving (parts ++ part ∷ []) vid ≡ parts_serving parts vid + cond (is_one part.versions vid) 1 0
serving_push parts part vid = sum_by_push (λ (x : PartNumbers Extent). cond (is_one x.versions vid) 1 0) parts part

own_others : (next new added : ℕ) (segments : List Extent) (parts : List (PartNumbers Extent)) (vid : ℕ) → vid < new
    → parts_serving (parts ++ own_part next new added segments ∷ []) vid ≡ parts_serving parts vid
own_others next new added segments parts vid lt =
    let away = or_from (eqb new vid) false (ne_eqb new vid (λ same. omega (arith, same, lt))) refl in
    let none = cond-false {A = ℕ} (is_one (new ∷ []) vid) 1 0 away in
    omega (arith, serving_push parts (own_part next new added segments) vid, none)

own_new : (next new added : ℕ) (segments : List Extent) (parts : List (PartNumbers Extent)) → parts_serving parts new ≡ 0 → parts_serving (parts ++ own_part next new added segments ∷ []) new ≡ 1
own_new next new added segments parts none =
    let one = cond-true {A = ℕ} (is_one (new ∷ []) new) 1 0 (or_left (eqb new new) false (eq-eqb new new refl)) in
    omega (arith, serving_push parts (own_part next new added segments) new, none, one)

join_others : (id new added : ℕ) (segments : List Extent) (parts : List (PartNumbers Extent)) (vid : ℕ) → vid < new → parts_serving (join_at id new added segments parts) vid ≡ parts_serving parts vid
join_others id new added segments [] vid lt = refl
join_others id new added segments (part ∷ parts) vid lt =
    let same = ap {B = ℕ} (λ (b : Bool). cond b 1 0) (one_other part.versions new vid (ne_eqb new vid (λ e. omega (arith, e, lt)))) in
    let before = serving_cons part parts vid in
    elim (cases_Bool (eqb part.id id)) [
      | inl e ↦ let after = serving_cons (with_joined new added segments part) parts vid in rw e (omega (arith, before, after, same))
      | inr e ↦
          let after = serving_cons part (join_at id new added segments parts) vid in
          let rest = join_others id new added segments parts vid lt in
          rw e (omega (arith, before, after, rest))
    ]

join_new : (id new added : ℕ) (segments : List Extent) (parts : List (PartNumbers Extent)) (part : PartNumbers Extent) → part_numbered parts id ≡ Some part
    → parts_serving parts new ≡ 0 → parts_serving (join_at id new added segments parts) new ≡ 1
join_new id new added segments [] part found none = absurd cc
join_new id new added segments (x ∷ parts) part found none =
    let before = serving_cons x parts new in
    elim (cases_Bool (eqb x.id id)) [
      | inl e ↦
          let one = cond-true {A = ℕ} (is_one (x.versions ++ new ∷ []) new) 1 0 (one_last x.versions new) in
          let after = serving_cons (with_joined new added segments x) parts new in
          rw e (omega (arith, before, after, one, none))
      | inr e ↦
          let rest = join_new id new added segments parts part (rw e at found) (omega (arith, before, none)) in
          let after = serving_cons x (join_at id new added segments parts) new in
          rw e (omega (arith, before, after, rest, none))
    ]

-- ---- all of them

-- what all partitions pass, where one is joined
pub all_joined : (p q : PartNumbers Extent → Bool) (id vid added : ℕ) (segments : List Extent) (parts : List (PartNumbers Extent)) → ((part : PartNumbers Extent) → p part ≡ true → q part ≡ true)
    → ((part : PartNumbers Extent) → part_numbered parts id ≡ Some part → p part ≡ true → q (with_joined vid added segments part) ≡ true) → list_all p parts ≡ true
    → list_all q (join_at id vid added segments parts) ≡ true
all_joined p q id vid added segments [] stay new all = refl
all_joined p q id vid added segments (part ∷ parts) stay new all =
    let both = and_parts (p part) (list_all p parts) all in
    elim (cases_Bool (eqb part.id id)) [
      | inl e ↦ rw e (and_from (q (with_joined vid added segments part)) (list_all q parts) (new part (rw e refl) both.0) (all_more p q parts stay both.1))
      | inr e ↦ rw e (and_from (q part) (list_all q (join_at id vid added segments parts)) (stay part both.0) (all_joined p q id vid added segments parts stay (λ x found. new x (rw e found)) both.1))
    ]

join_ids : (id vid added : ℕ) (segments : List Extent) (parts : List (PartNumbers Extent)) → ids_of parts ≡ ids_of (join_at id vid added segments parts)
join_ids id vid added segments [] = refl
join_ids id vid added segments (part ∷ parts) =
    elim (cases_Bool (eqb part.id id)) [
      | inl e ↦ rw e refl
      | inr e ↦ rw e (ap (λ (ids : List ℕ). part.id ∷ ids) (join_ids id vid added segments parts))
    ]

-- What is asked of partitions, where so many versions and records are there, and the next partition's number is this.
pub record AreParted (count records next : ℕ) (parts : List (PartNumbers Extent)) : Type 0 where
  pub rise : ascend_from 1 (ids_of parts) ≡ true
  pub below : list_all (λ part. nat_lt part.id next) parts ≡ true
  pub each : list_all (λ vid. eqb (parts_serving parts vid) 1) (counted 1 count) ≡ true
  pub all : list_all (is_part count records) parts ≡ true

abbrev room_in : SetNumbers Extent Extent → ℕ
room_in d = d.next_part + length (targets_left d.plan) + (65535 - length d.versions)

pub parted_facts : (d : SetNumbers Extent Extent) → are_parts d ≡ true
    → AreParted (length d.versions) d.records d.next_part d.parts × (d.next_part + length (targets_left d.plan) + (65535 - length d.versions) < 2 ^ 32)
parted_facts d h =
    let halves = and_parts (ascend_from 1 (ids_of d.parts) && list_all (λ (part : PartNumbers Extent). nat_lt part.id d.next_part) d.parts) _ h in
    let ids = and_parts (ascend_from 1 (ids_of d.parts)) (list_all (λ (part : PartNumbers Extent). nat_lt part.id d.next_part) d.parts) halves.0 in
    let rest = and_parts (list_all (λ (vid : ℕ). eqb (parts_serving d.parts vid) 1) (counted 1 (length d.versions)) && list_all (is_part (length d.versions) d.records) d.parts) (nat_lt (room_in d) (2 ^ 32)) halves.1 in
    let each = and_parts (list_all (λ (vid : ℕ). eqb (parts_serving d.parts vid) 1) (counted 1 (length d.versions))) (list_all (is_part (length d.versions) d.records) d.parts) rest.0 in
    (record { rise = ids.0; below = ids.1; each = each.0; all = each.1 }, ltb-true (room_in d) (2 ^ 32) rest.1)

pub parted_test : (d : SetNumbers Extent Extent) → AreParted (length d.versions) d.records d.next_part d.parts
    → d.next_part + length (targets_left d.plan) + (65535 - length d.versions) < 2 ^ 32 → are_parts d ≡ true
parted_test d are room =
    and_from (ascend_from 1 (ids_of d.parts) && list_all (λ (part : PartNumbers Extent). nat_lt part.id d.next_part) d.parts) _
    (and_from (ascend_from 1 (ids_of d.parts)) (list_all (λ (part : PartNumbers Extent). nat_lt part.id d.next_part) d.parts) are.rise are.below)
    (and_from (list_all (λ (vid : ℕ). eqb (parts_serving d.parts vid) 1) (counted 1 (length d.versions)) && list_all (is_part (length d.versions) d.records) d.parts) (nat_lt (room_in d) (2 ^ 32))
    (and_from (list_all (λ (vid : ℕ). eqb (parts_serving d.parts vid) 1) (counted 1 (length d.versions))) (list_all (is_part (length d.versions) d.records) d.parts) are.each are.all)
    (lt-ltb (room_in d) (2 ^ 32) room))

pub own_parted : (count more records all next added : ℕ) (segments : List Extent) (parts : List (PartNumbers Extent)) → AreParted count records next parts → more ≡ count + 1
    → records ≤ all → added ≤ all → 1 ≤ next
    → AreParted more all (next + 1) (parts ++ own_part next (count + 1) added segments ∷ [])
own_parted count more records all next added segments parts are is few some first = record {
  rise =
      let ids = map_push (λ (part : PartNumbers Extent). part.id) parts (own_part next (count + 1) added segments) in
      let low = list_all-map (λ (n : ℕ). nat_lt n next) (λ (part : PartNumbers Extent). part.id) parts ∙ are.below in
      subst (λ (ns : List ℕ). ascend_from 1 ns ≡ true) (sym ids) (ascend_last 1 next (ids_of parts) are.rise low first);
  below =
      all_push (λ (part : PartNumbers Extent). nat_lt part.id (next + 1)) parts (own_part next (count + 1) added segments)
      (all_more (λ (part : PartNumbers Extent). nat_lt part.id next) (λ (part : PartNumbers Extent). nat_lt part.id (next + 1)) parts
      (λ part h. let lt = ltb-true part.id next h in lt-ltb part.id (next + 1) (omega (arith, lt))) are.below)
      (lt-ltb next (next + 1) (omega arith));
  each =
      each_more count more parts (parts ++ own_part next (count + 1) added segments ∷ []) is (λ vid le. own_others next (count + 1) added segments parts vid (omega (arith, le)))
      (own_new next (count + 1) added segments parts (none_serves count records parts (count + 1) are.all (omega arith))) are.each;
  all =
      all_push (is_part more all) parts (own_part next (count + 1) added segments)
      (all_more (is_part count records) (is_part more all) parts (λ part h. part_more count more records all part (omega (arith, is)) few h) are.all)
      (own_is_part more all next (count + 1) added segments (omega arith) (omega (arith, is)) some);
}

pub join_parted : (count more records all next id added : ℕ) (segments : List Extent) (parts : List (PartNumbers Extent)) (part : PartNumbers Extent)
    → AreParted count records next parts → more ≡ count + 1 → records ≤ all
    → part_numbered parts id ≡ Some part → part.records + added ≤ all → AreParted more all next (join_at id (count + 1) added segments parts)
join_parted count more records all next id added segments parts part are is few found some = record {
  rise = subst (λ (ns : List ℕ). ascend_from 1 ns ≡ true) (join_ids id (count + 1) added segments parts) are.rise;
  below = all_joined (λ (x : PartNumbers Extent). nat_lt x.id next) (λ (x : PartNumbers Extent). nat_lt x.id next) id (count + 1) added segments parts (λ x h. h) (λ x there h. h) are.below;
  each =
      each_more count more parts (join_at id (count + 1) added segments parts) is (λ vid le. join_others id (count + 1) added segments parts vid (omega (arith, le)))
      (join_new id (count + 1) added segments parts part found (none_serves count records parts (count + 1) are.all (omega arith))) are.each;
  all =
      all_joined (is_part count records) (is_part more all) id (count + 1) added segments parts (λ x h. part_more count more records all x (omega (arith, is)) few h)
      (λ x there h. joined_is_part count records more all (count + 1) added segments x (omega arith) (omega (arith, is)) (fits x there) h) are.all;
}
  where
    fits : (x : PartNumbers Extent) → part_numbered parts id ≡ Some x → x.records + added ≤ all
    fits x there =
        let found_as : Some part ≡ Some x = sym found ∙ there in
        let same : part ≡ x = cc in
        subst (λ (y : PartNumbers Extent). y.records + added ≤ all) same some
