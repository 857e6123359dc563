-- The partitions that some versions leave: where others are left, a partition stays with those.
use Rattle.std.proofs.Common.{◌≡◌, ◌<◌, ℕ, zero, suc, ◌+◌, ◌-◌, Bool, true, false, not, ◌&&◌, ◌==◌, List, [], ◌∷◌, ◌++◌, length, map, refl, sym, ◌∙◌, ap, inl, inr, arith}
use Rattle.std.specs.Prelude.{nat_le, nat_lt, Some}
use Rattle.std.specs.List.{list_all}
use Rattle.std.proofs.lemmas.Bool.{cases_Bool, and_parts, and_from, ne_eqb, leb-true, ltb-true, eqb-true}
use Rattle.std.proofs.lemmas.List.{length-append}
use Rattle.std.proofs.lemmas.List.Sums.{sum_by-cons}
use Rattle.ov_host.specs.declared.area.Extent.{Extent}
use Rattle.ov_catalog.specs.Events.{leaving, is_empty, left_parts, is_one, segments_at, one_at, chosen}
use Rattle.ov_catalog.specs.Numbers.{PartNumbers}
use Rattle.ov_catalog.specs.Planning.{ascend_from, are_below}
use Rattle.ov_catalog.specs.Testing.{part_numbered}
use Rattle.ov_catalog.specs.Wholes.{are_there, is_part, parts_serving}
use Rattle.law_snapshots.proofs.PartTests.{all_at, all_by, all_both, without, was_one, gone_one, same_one, none_listed, one_if, ascend_lower, ascend_filter, is_filled}

module _ {S : Type 0} (gone : List ℕ) where
  -- what holds of each that stays
  pub all_left : (test other : PartNumbers S → Bool) (parts : List (PartNumbers S)) → ((part : PartNumbers S) → test part ≡ true → is_empty (leaving gone part) ≡ false → other (leaving gone part) ≡ true)
      → list_all test parts ≡ true → list_all other (left_parts gone parts) ≡ true
  all_left test other [] each all = refl
  all_left test other (part ∷ parts) each all =
      let both = and_parts (test part) (list_all test parts) all
      in let rest = all_left test other parts each both.1
      in elim (cases_Bool (is_empty (leaving gone part))) [
        | inl e ↦ rw e rest
        | inr e ↦ rw e (and_from (other (leaving gone part)) (list_all other (left_parts gone parts)) (each part both.0 e) rest)
      ]

  pub ids_left : (least : ℕ) (parts : List (PartNumbers S)) → ascend_from least (map (λ part. part.id) parts) ≡ true → ascend_from least (map (λ part. part.id) (left_parts gone parts)) ≡ true
  ids_left least [] up = refl
  ids_left least (part ∷ parts) up =
      let both = and_parts (nat_le least part.id) (ascend_from (part.id + 1) (map (λ (p : PartNumbers S). p.id) parts)) up
      in let rest = ids_left (part.id + 1) parts both.1
      in elim (cases_Bool (is_empty (leaving gone part))) [
        | inl e ↦ rw e (ascend_lower least (part.id + 1) (map (λ (p : PartNumbers S). p.id) (left_parts gone parts)) (omega (arith, leb-true least part.id both.0)) rest)
        | inr e ↦ rw e (and_from (nat_le least part.id) (ascend_from (part.id + 1) (map (λ (p : PartNumbers S). p.id) (left_parts gone parts))) both.0 rest)
      ]

  pub part_left : (count records : ℕ) (part : PartNumbers S) → is_part count records part ≡ true → is_empty (leaving gone part) ≡ false → is_part count records (leaving gone part) ≡ true
  part_left count records part is stays =
      let halves = and_parts (not (length part.versions == 0) && list_all (is_one part.holds) part.versions) _ is
      in let served = and_parts (not (length part.versions == 0)) (list_all (is_one part.holds) part.versions) halves.0
      in let sizes = and_parts (ascend_from 1 part.versions && are_there count part.holds) (nat_le part.records records) halves.1
      in let up = and_parts (ascend_from 1 part.versions) (are_there count part.holds) sizes.0
      in and_from _ _
      (and_from _ _ (ap not stays)
      (all_by (is_one part.holds) (without gone part.versions) (λ n there. all_at (is_one part.holds) part.versions n served.1 (was_one gone part.versions n there).0)))
      (and_from _ _ (and_from _ _ (ascend_filter (λ n. not (is_one gone n)) 1 part.versions up.0) up.1) sizes.1)

  -- ---- which of them serve a version

  serving_cons : (part : PartNumbers S) (parts : List (PartNumbers S)) (vid : ℕ) → parts_serving (part ∷ parts) vid ≡ one_if (is_one part.versions vid) + parts_serving parts vid
  serving_cons part parts vid = sum_by-cons (λ (p : PartNumbers S). one_if (is_one p.versions vid)) part parts

  empty_serves : (part : PartNumbers S) (vid : ℕ) → is_empty (leaving gone part) ≡ true → is_one (without gone part.versions) vid ≡ false
  empty_serves part vid e = ap (λ (ns : List ℕ). is_one ns vid) (none_listed (without gone part.versions) e)

  pub left_serving : (parts : List (PartNumbers S)) (vid : ℕ) → is_one gone vid ≡ false → parts_serving (left_parts gone parts) vid ≡ parts_serving parts vid
  left_serving [] vid out = refl
  left_serving (part ∷ parts) vid out =
      let rest = left_serving parts vid out
      in let same : is_one (without gone part.versions) vid ≡ is_one part.versions vid = same_one gone part.versions vid out
      in let was = serving_cons part parts vid
      in elim (cases_Bool (is_empty (leaving gone part))) [
        | inl e ↦
            let none : is_one part.versions vid ≡ false = sym same ∙ empty_serves part vid e
            in let own : one_if (is_one part.versions vid) ≡ 0 = ap one_if none
            in rw e (omega (arith, rest, was, own))
        | inr e ↦
            let now = serving_cons (leaving gone part) (left_parts gone parts) vid
            in let own : one_if (is_one (without gone part.versions) vid) ≡ one_if (is_one part.versions vid) = ap one_if same
            in rw e (omega (arith, rest, was, now, own))
      ]

  pub gone_serving : (parts : List (PartNumbers S)) (vid : ℕ) → is_one gone vid ≡ true → parts_serving (left_parts gone parts) vid ≡ 0
  gone_serving [] vid out = refl
  gone_serving (part ∷ parts) vid out =
      let rest = gone_serving parts vid out
      in elim (cases_Bool (is_empty (leaving gone part))) [
        | inl e ↦ rw e rest
        | inr e ↦
            let now = serving_cons (leaving gone part) (left_parts gone parts) vid
            in let own : one_if (is_one (without gone part.versions) vid) ≡ 0 = ap one_if (gone_one gone part.versions vid out)
            in rw e (omega (arith, rest, now, own))
      ]

  -- ---- the one of a number

  pub left_numbered : (more parts : List (PartNumbers S)) (id : ℕ) (part : PartNumbers S) → part_numbered parts id ≡ Some part → is_empty (leaving gone part) ≡ false
      → part_numbered (left_parts gone parts ++ more) id ≡ Some (leaving gone part)
  left_numbered more [] id part found stays = absurd cc
  left_numbered more (p ∷ parts) id part found stays =
      elim (cases_Bool (p.id == id)) [
        | inl e ↦
            let first : Some p ≡ Some part = rw e at found
            in let same : p ≡ part = cc
            in let some : is_empty (leaving gone p) ≡ false = ap (λ (x : PartNumbers S). is_empty (leaving gone x)) same ∙ stays
            in rw (some, e) (ap (λ (x : PartNumbers S). Some (leaving gone x)) same)
        | inr e ↦
            let rest = left_numbered more parts id part (rw e at found) stays
            in elim (cases_Bool (is_empty (leaving gone p))) [
              | inl none ↦ rw none rest
              | inr some ↦ rw (some, e) rest
            ]
      ]

module _ {S : Type 0} where
  pub numbered_below : (next id : ℕ) (parts : List (PartNumbers S)) (part : PartNumbers S) → list_all (λ p. nat_lt p.id next) parts ≡ true → part_numbered parts id ≡ Some part → id < next
  numbered_below next id [] part below found = absurd cc
  numbered_below next id (p ∷ parts) part below found =
      let both = and_parts (nat_lt p.id next) (list_all (λ (x : PartNumbers S). nat_lt x.id next) parts) below
      in elim (cases_Bool (p.id == id)) [
        | inl e ↦ let same : p.id ≡ id = eqb-true p.id id e in omega (arith, same, ltb-true p.id next both.0)
        | inr e ↦ numbered_below next id parts part both.1 (rw e at found)
      ]

  pub segments_found : (id : ℕ) (parts : List (PartNumbers S)) (part : PartNumbers S) → part_numbered parts id ≡ Some part → segments_at id parts ≡ part.segments
  segments_found id [] part found = absurd cc
  segments_found id (p ∷ parts) part found =
      elim (cases_Bool (p.id == id)) [
        | inl e ↦
            let first : Some p ≡ Some part = rw e at found
            in let same : p ≡ part = cc
            in rw e (ap (λ (x : PartNumbers S). x.segments) same)
        | inr e ↦ rw e (segments_found id parts part (rw e at found))
      ]

-- ---- segments at places

pub one_filled : (es : List Extent) (place : ℕ) → list_all is_filled es ≡ true → list_all is_filled (one_at es place) ≡ true
one_filled [] place all = refl
one_filled (e ∷ es) place all =
    let both = and_parts (is_filled e) (list_all is_filled es) all
    in elim (cases_Bool (place == 0)) [
      | inl first ↦ rw first (and_from (is_filled e) true both.0 refl)
      | inr later ↦ rw later (one_filled es (place - 1) both.1)
    ]

pub chosen_filled : (places : List ℕ) (es : List Extent) → list_all is_filled es ≡ true → list_all is_filled (chosen places es) ≡ true
chosen_filled [] es all = refl
chosen_filled (place ∷ places) es all = all_both is_filled (one_at es place) (chosen places es) (one_filled es place all) (chosen_filled places es all)

one_long : (es : List Extent) (place : ℕ) → place < length es → length (one_at es place) ≡ 1
one_long [] place low = absurd (omega (arith, low))
one_long (e ∷ es) zero low = refl
one_long (e ∷ es) (suc place) low =
    let ne : (suc place == 0) ≡ false = ne_eqb (suc place) 0 (λ same. absurd (omega (arith, same)))
    in let down : suc place - 1 ≡ place = omega arith
    in rw (ne, down) (one_long es place (omega (arith, low)))

pub chosen_long : (places : List ℕ) (es : List Extent) → are_below (length es) places ≡ true → length (chosen places es) ≡ length places
chosen_long [] es below = refl
chosen_long (place ∷ places) es below =
    let both = and_parts (nat_lt place (length es)) (are_below (length es) places) below
    in let long = length-append (one_at es place) (chosen places es)
    in omega (arith, long, one_long es place (ltb-true place (length es) both.0), chosen_long places es both.1)

pub found_filled : (id : ℕ) (parts : List (PartNumbers Extent)) → list_all (λ part. list_all is_filled part.segments) parts ≡ true → list_all is_filled (segments_at id parts) ≡ true
found_filled id [] all = refl
found_filled id (part ∷ parts) all =
    let both = and_parts (list_all is_filled part.segments) (list_all (λ (p : PartNumbers Extent). list_all is_filled p.segments) parts) all
    in elim (cases_Bool (part.id == id)) [
      | inl e ↦ rw e both.0
      | inr e ↦ rw e (found_filled id parts both.1)
    ]
