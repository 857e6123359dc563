-- The targets of a plan behind its current one, and their sources once that one is flipped.
use Rattle.std.proofs.Common.{◌≡◌, ◌≤◌, ◌<◌, ℕ, zero, suc, ◌+◌, ◌-◌, Bool, true, false, not, ◌&&◌, ◌||◌, ◌==◌, List, [], ◌∷◌, ◌++◌, length, get_or, map, refl, sym, ◌∙◌, ap, subst, inl, inr, arith}
use Rattle.std.specs.Prelude.{nat_le, nat_lt, Option, Some, None}
use Rattle.std.specs.List.{list_all, list_any}
use Rattle.std.proofs.lemmas.Bool.{cases_Bool, and_parts, and_from, or_left, or_right, or_parts, or_from, or_cases, ne_eqb, eqb-true, leb-true}
use borrow.Author.Tests.{not-true}
use Rattle.ov_catalog.specs.Events.{leaving, is_empty, left_parts, is_one, no_target}
use Rattle.ov_catalog.specs.Numbers.{PartNumbers, TargetNumbers}
use Rattle.ov_catalog.specs.Planning.{ascend_from, are_below, meets, empties, is_kept, is_source}
use Rattle.ov_catalog.specs.Testing.{is_same, part_numbered, targets_from}
use Rattle.ov_catalog.specs.Wholes.{are_sources, are_targets, is_target, serves_only}
use Rattle.law_snapshots.proofs.PartTests.{all_at, all_by, all_both, some_one, one_both, some_listed, without, was_one, without_meets, without_apart}
use Rattle.law_snapshots.proofs.LeftParts.{all_left, left_numbered, numbered_below}

-- ---- the targets that are left

pub from_first : (ts : List TargetNumbers) → targets_from 0 ts ≡ ts
from_first [] = refl
from_first (t ∷ ts) = refl

pub from_next : (at : ℕ) (ts : List TargetNumbers) → at < length ts → targets_from at ts ≡ get_or ts at no_target ∷ targets_from (at + 1) ts
from_next at [] low = absurd (omega (arith, low))
from_next zero (t ∷ ts) low =
    ap (λ (us : List TargetNumbers). t ∷ us) (sym (from_first ts))
from_next (suc at) (t ∷ ts) low =
    let ne : (suc at == 0) ≡ false = ne_eqb (suc at) 0 (λ same. absurd (omega (arith, same)))
    in let next : (suc at + 1 == 0) ≡ false = ne_eqb (suc at + 1) 0 (λ same. absurd (omega (arith, same)))
    in let down : suc at - 1 ≡ at = omega arith
    in let back : suc at + 1 - 1 ≡ at + 1 = omega arith
    in rw (ne, down, next, back) (from_next at ts (omega (arith, low)))

pub targets_on : (count records at : ℕ) (ts : List TargetNumbers) → are_targets count records ts ≡ true → are_targets count records (targets_from at ts) ≡ true
targets_on count records at [] are = refl
targets_on count records at (t ∷ ts) are =
    elim (cases_Bool (at == 0)) [
      | inl e ↦ rw e are
      | inr e ↦ rw e (targets_on count records (at - 1) ts (and_parts (is_target count records t ts) (are_targets count records ts) are).1)
    ]

-- ---- a source is no partition that is yet to come, and keeps no more than the target has

module _ {S : Type 0} (parts : List (PartNumbers S)) where
  source_by : (next : ℕ) (t : TargetNumbers) (others : List (List ℕ)) (o : Option (PartNumbers S)) → part_numbered parts t.source ≡ o → list_all (λ part. nat_lt part.id next) parts ≡ true
      → is_kept t others o ≡ true → t.source < next
  source_by next t others None found below kept = absurd cc
  source_by next t others (Some part) found below kept = numbered_below next t.source parts part below found

  pub source_below : (next : ℕ) (t : TargetNumbers) (others : List (List ℕ)) → 1 ≤ next → list_all (λ part. nat_lt part.id next) parts ≡ true → is_source parts t others ≡ true → t.source < next
  source_below next t others some below is =
      elim (cases_Bool (t.source == 0)) [
        | inl e ↦ let none : t.source ≡ 0 = eqb-true t.source 0 e in omega (arith, none, some)
        | inr e ↦ source_by next t others (part_numbered parts t.source) refl below (rw e at is)
      ]

  kept_within : (t : TargetNumbers) (others : List (List ℕ)) (o : Option (PartNumbers S)) → is_kept t others o ≡ true → t.kept_records ≤ t.size
  kept_within t others None kept = absurd cc
  kept_within t others (Some part) kept =
      let halves = and_parts (empties t.versions others part) _ kept
      in let places = and_parts (ascend_from 0 t.kept && are_below (length part.segments) t.kept) (is_same (length t.kept == 0) (t.kept_records == 0) && nat_le t.kept_records t.size) halves.1
      in leb-true t.kept_records t.size (and_parts (is_same (length t.kept == 0) (t.kept_records == 0)) (nat_le t.kept_records t.size) places.1).1

  pub source_within : (t : TargetNumbers) (others : List (List ℕ)) → is_source parts t others ≡ true → t.kept_records ≤ t.size
  source_within t others is =
      elim (cases_Bool (t.source == 0)) [
        | inl e ↦
            let both = and_parts (length t.kept == 0) (t.kept_records == 0) (rw e at is)
            in let none : t.kept_records ≡ 0 = eqb-true t.kept_records 0 both.1
            in omega (arith, none)
        | inr e ↦ kept_within t others (part_numbered parts t.source) (rw e at is)
      ]

  pub first_within : (vids : List ℕ) (ts more : List TargetNumbers) (t : TargetNumbers) → ts ≡ t ∷ more → are_sources parts vids ts ≡ true → t.kept_records ≤ t.size
  first_within vids ts more t is are =
      let others : List (List ℕ) = map (λ (u : TargetNumbers). u.versions) more
      in let first : are_sources parts vids (t ∷ more) ≡ true = subst (λ (us : List TargetNumbers). are_sources parts vids us ≡ true) is are
      in let both = and_parts (is_source parts t others && list_all (serves_only t.source vids) parts) (are_sources parts vids more) first
      in source_within t others (and_parts (is_source parts t others) (list_all (serves_only t.source vids) parts) both.0).0

-- ---- where a target's versions have left the partitions, the sources of those behind it are there as before

module _ {S : Type 0} (gone vids : List ℕ) (parts : List (PartNumbers S)) (new : PartNumbers S) where
  abbrev now : List (PartNumbers S)
  now = left_parts gone parts ++ new ∷ []

  others_apart : (versions : List ℕ) (others : List (List ℕ)) → list_any (λ other. meets other versions) others ≡ false → list_any (λ other. meets other (without gone versions)) others ≡ false
  others_apart versions [] apart = refl
  others_apart versions (other ∷ others) apart =
      let both = or_parts (meets other versions) (list_any (λ (o : List ℕ). meets o versions) others) apart
      in or_from (meets other (without gone versions)) (list_any (λ (o : List ℕ). meets o (without gone versions)) others) (without_apart gone other versions both.0) (others_apart versions others both.1)

  empties_left : (versions : List ℕ) (others : List (List ℕ)) (part : PartNumbers S) → meets versions gone ≡ false → empties versions others part ≡ true → empties versions others (leaving gone part) ≡ true
  empties_left versions others part apart is =
      let both = and_parts (meets versions part.versions) (not (list_any (λ (o : List ℕ). meets o part.versions) others)) is
      in and_from _ _ (without_meets gone versions part.versions apart both.0) (ap not (others_apart part.versions others (not-true _ both.1)))

  stays : (versions : List ℕ) (others : List (List ℕ)) (part : PartNumbers S) → empties versions others (leaving gone part) ≡ true → is_empty (leaving gone part) ≡ false
  stays versions others part is =
      let both = and_parts (meets versions (without gone part.versions)) (not (list_any (λ (o : List ℕ). meets o (without gone part.versions)) others)) is
      in let some = some_one (is_one (without gone part.versions)) versions both.0
      in some_listed (without gone part.versions) some.0 some.1.1

  kept_left : (t : TargetNumbers) (others : List (List ℕ)) (o : Option (PartNumbers S)) → part_numbered parts t.source ≡ o → meets t.versions gone ≡ false → is_kept t others o ≡ true
      → is_kept t others (part_numbered now t.source) ≡ true
  kept_left t others None found apart kept = absurd cc
  kept_left t others (Some part) found apart kept =
      let halves = and_parts (empties t.versions others part) _ kept
      in let left = empties_left t.versions others part apart halves.0
      in subst (λ (o : Option (PartNumbers S)). is_kept t others o ≡ true) (sym (left_numbered gone (new ∷ []) parts t.source part found (stays t.versions others part left)))
      (and_from _ _ left halves.1)

  source_left : (t : TargetNumbers) (others : List (List ℕ)) → meets t.versions gone ≡ false → is_source parts t others ≡ true → is_source now t others ≡ true
  source_left t others apart is =
      elim (cases_Bool (t.source == 0)) [
        | inl e ↦ rw e (rw e at is)
        | inr e ↦ rw e (kept_left t others (part_numbered parts t.source) refl apart (rw e at is))
      ]

  -- what is left in a source is of the targets that are left
  in_rest : (n : ℕ) → is_one (gone ++ vids) n ≡ true → is_one gone n ≡ false → is_one vids n ≡ true
  in_rest n there out = sym (ap (λ (b : Bool). b || is_one vids n) out) ∙ sym (one_both gone vids n) ∙ there

  only_left : (id : ℕ) (part : PartNumbers S) → serves_only id (gone ++ vids) part ≡ true → serves_only id vids (leaving gone part) ≡ true
  only_left id part only =
      elim (or_cases (not (part.id == id)) (list_all (is_one (gone ++ vids)) part.versions) only) [
        | inl other ↦ or_left (not (part.id == id)) (list_all (is_one vids) (without gone part.versions)) other
        | inr all ↦ or_right (not (part.id == id)) (list_all (is_one vids) (without gone part.versions))
            (all_by (is_one vids) (without gone part.versions) (λ n there.
            let was = was_one gone part.versions n there in in_rest n (all_at (is_one (gone ++ vids)) part.versions n all was.0) was.1))
      ]

  only_new : (id : ℕ) → id < new.id → serves_only id vids new ≡ true
  only_new id low = or_left (not (new.id == id)) (list_all (is_one vids) new.versions) (ap not (ne_eqb new.id id (λ same. absurd (omega (arith, same, low)))))

  onlies_left : (id : ℕ) → id < new.id → list_all (serves_only id (gone ++ vids)) parts ≡ true → list_all (serves_only id vids) now ≡ true
  onlies_left id low all =
      all_both (serves_only id vids) (left_parts gone parts) (new ∷ [])
      (all_left gone (serves_only id (gone ++ vids)) (serves_only id vids) parts (λ part only some. only_left id part only) all)
      (and_from (serves_only id vids new) true (only_new id low) refl)

  pub sources_left : (ts : List TargetNumbers) → 1 ≤ new.id → list_all (λ part. nat_lt part.id new.id) parts ≡ true → list_any (λ u. meets u.versions gone) ts ≡ false
      → are_sources parts (gone ++ vids) ts ≡ true → are_sources now vids ts ≡ true
  sources_left [] some below apart are = refl
  sources_left (t ∷ ts) some below apart are =
      let others : List (List ℕ) = map (λ (u : TargetNumbers). u.versions) ts
      in let both = and_parts (is_source parts t others && list_all (serves_only t.source (gone ++ vids)) parts) (are_sources parts (gone ++ vids) ts) are
      in let own = and_parts (is_source parts t others) (list_all (serves_only t.source (gone ++ vids)) parts) both.0
      in let away = or_parts (meets t.versions gone) (list_any (λ (u : TargetNumbers). meets u.versions gone) ts) apart
      in and_from _ _
      (and_from _ _ (source_left t others away.0 own.0) (onlies_left t.source (source_below parts new.id t others some below own.0) own.1))
      (sources_left ts some below away.1 both.1)
