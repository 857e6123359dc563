-- A Flip leaves a dataset as a Whole may say it.
use Rattle.std.proofs.Common.{◌≡◌, ◌≤◌, ◌<◌, ℕ, zero, suc, ◌+◌, ◌-◌, ◌^◌, Bool, true, false, not, ◌&&◌, ◌==◌, List, [], ◌∷◌, ◌++◌, length, map, refl, sym, ◌∙◌, ap, subst, inl, inr, arith}
use Rattle.std.specs.Prelude.{nat_le, nat_lt, if◌then◌else◌, is_none, Option, Some, None}
use Rattle.std.specs.List.{list_all, list_any, flat_map}
use Rattle.std.proofs.lemmas.Bool.{cases_Bool, and_parts, and_from, or_left, or_cases, eq-eqb, eqb-true, leb-true, le-leb, ltb-true, lt-ltb}
use Rattle.std.proofs.lemmas.List.{map-append}
use Rattle.std.proofs.lemmas.List.Folds.{list_all-map}
use Rattle.std.proofs.lemmas.List.Sums.{sum_by_push}
use borrow.Author.Tests.{not-true}
use Rattle.ov_host.specs.declared.area.Extent.{Extent}
use Rattle.ov_catalog.specs.declared.field.Field.TheVariants as off
use Rattle.ov_catalog.specs.Events.{current, chosen, flipped, flipped_by, is_one, left_parts, next_target, segments_at, target_part}
use Rattle.ov_catalog.specs.Numbers.{PartNumbers, PlanNumbers, SetNumbers, TargetNumbers, VersionNumbers}
use Rattle.ov_catalog.specs.Planning.{ascend_from, are_below, empties, is_kept, is_source, is_threshold, meets, of_running, flip_off}
use Rattle.ov_catalog.specs.Testing.{is_same, part_numbered, targets_from}
use Rattle.ov_catalog.specs.Wholes.{are_copied, are_parts, are_placed, are_segments, are_sources, are_targets, are_there, are_versions, is_part, is_plan, is_target, is_threshold_for, parts_serving, serves_only, targets_left}
use Rattle.ov_catalog.proofs.CommitLemmas.{off-true}
use Rattle.ov_model.specs.Records.{counted}
use Rattle.law_snapshots.specs.Whole.{IsWhole, RunsAt, p_of, q_of}
use Rattle.law_snapshots.proofs.PartTests.{HasParts, all_both, all_by, all_more, ascend_last, is_filled, one_if, parts_are, parts_test, same_out, segments_are, segments_both, segments_of}
use Rattle.law_snapshots.proofs.LeftParts.{all_left, chosen_filled, chosen_long, found_filled, gone_serving, ids_left, left_serving, part_left, segments_found}
use Rattle.law_snapshots.proofs.SourcesLeft.{from_next, first_within, sources_left, targets_on}

-- ---- what the target keeps of its source

module _ (parts : List (PartNumbers Extent)) (filled : list_all (λ part. list_all is_filled part.segments) parts ≡ true) where
  kept_long : (t : TargetNumbers) (others : List (List ℕ)) (o : Option (PartNumbers Extent)) → part_numbered parts t.source ≡ o → is_kept t others o ≡ true
      → (length (chosen t.kept (segments_at t.source parts)) == 0) ≡ (t.kept_records == 0)
  kept_long t others None found kept = absurd cc
  kept_long t others (Some part) found kept =
      let halves = and_parts (empties t.versions others part) _ kept
      in let sizes = and_parts (ascend_from 0 t.kept && are_below (length part.segments) t.kept) (is_same (length t.kept == 0) (t.kept_records == 0) && nat_le t.kept_records t.size) halves.1
      in let places = and_parts (ascend_from 0 t.kept) (are_below (length part.segments) t.kept) sizes.0
      in let same = and_parts (is_same (length t.kept == 0) (t.kept_records == 0)) (nat_le t.kept_records t.size) sizes.1
      in ap (λ (es : List Extent). length (chosen t.kept es) == 0) (segments_found t.source parts part found)
      ∙ ap (λ n. n == 0) (chosen_long t.kept part.segments places.1)
      ∙ same_out (length t.kept == 0) (t.kept_records == 0) same.0

  none_kept : (t : TargetNumbers) → (length t.kept == 0 && t.kept_records == 0) ≡ true → (length (chosen t.kept (segments_at t.source parts)) == 0) ≡ (t.kept_records == 0)
  none_kept t none =
      let both = and_parts (length t.kept == 0) (t.kept_records == 0) none
      in of_none t.kept both.0 ∙ sym both.1
    where
      of_none : (kept : List ℕ) → (length kept == 0) ≡ true → (length (chosen kept (segments_at t.source parts)) == 0) ≡ true
      of_none [] none = refl
      of_none (place ∷ kept) none = absurd (let e = eqb-true (length (place ∷ kept)) 0 none in omega (arith, e))

  pub kept_segments : (t : TargetNumbers) (others : List (List ℕ)) → is_source parts t others ≡ true → are_segments t.kept_records (chosen t.kept (segments_at t.source parts)) ≡ true
  kept_segments t others is =
      segments_of t.kept_records (chosen t.kept (segments_at t.source parts)) (chosen_filled t.kept (segments_at t.source parts) (found_filled t.source parts filled))
      (elim (cases_Bool (t.source == 0)) [
        | inl e ↦ none_kept t (rw e at is)
        | inr e ↦ kept_long t others (part_numbered parts t.source) refl (rw e at is)
      ])

-- ---- the partitions after the flip

module _ (count records next : ℕ) (parts : List (PartNumbers Extent)) (new : PartNumbers Extent) (number : new.id ≡ next) where
  abbrev gone : List ℕ
  gone = new.versions

  abbrev now : List (PartNumbers Extent)
  now = left_parts gone parts ++ new ∷ []

  ids_now : 1 ≤ next → ascend_from 1 (map (λ part. part.id) parts) ≡ true → list_all (λ part. nat_lt part.id next) parts ≡ true → ascend_from 1 (map (λ part. part.id) now) ≡ true
  ids_now some up below =
      let ids : List ℕ = map (λ (part : PartNumbers Extent). part.id) (left_parts gone parts)
      in let all : list_all (λ n. nat_lt n new.id) ids ≡ true =
      list_all-map (λ n. nat_lt n new.id) (λ (part : PartNumbers Extent). part.id) (left_parts gone parts)
      ∙ all_left gone (λ (part : PartNumbers Extent). nat_lt part.id next) (λ (part : PartNumbers Extent). nat_lt part.id new.id) parts (λ part low stays. ap (nat_lt part.id) number ∙ low) below
      in ap (ascend_from 1) (map-append (λ (part : PartNumbers Extent). part.id) (left_parts gone parts) (new ∷ []))
      ∙ ascend_last 1 new.id ids (ids_left gone 1 parts up) all (omega (arith, some, number))

  below_now : list_all (λ part. nat_lt part.id next) parts ≡ true → list_all (λ part. nat_lt part.id (next + 1)) now ≡ true
  below_now below =
      all_both (λ (part : PartNumbers Extent). nat_lt part.id (next + 1)) (left_parts gone parts) (new ∷ [])
      (all_left gone (λ (part : PartNumbers Extent). nat_lt part.id next) (λ (part : PartNumbers Extent). nat_lt part.id (next + 1)) parts
      (λ part low stays. lt-ltb part.id (next + 1) (omega (arith, ltb-true part.id next low))) below)
      (and_from (nat_lt new.id (next + 1)) true (lt-ltb new.id (next + 1) (omega (arith, number))) refl)

  once_now : (vid : ℕ) → (parts_serving parts vid == 1) ≡ true → (parts_serving now vid == 1) ≡ true
  once_now vid once =
      let one : parts_serving parts vid ≡ 1 = eqb-true (parts_serving parts vid) 1 once
      in let all : parts_serving now vid ≡ parts_serving (left_parts gone parts) vid + one_if (is_one gone vid) = sum_by_push (λ (part : PartNumbers Extent). one_if (is_one part.versions vid)) (left_parts gone parts) new
      in eq-eqb (parts_serving now vid) 1 (elim (cases_Bool (is_one gone vid)) [
        | inl e ↦ let own : one_if (is_one gone vid) ≡ 1 = ap one_if e in omega (arith, all, own, gone_serving gone parts vid e)
        | inr e ↦ let own : one_if (is_one gone vid) ≡ 0 = ap one_if e in omega (arith, all, own, one, left_serving gone parts vid e)
      ])

  each_now : list_all (is_part count records) parts ≡ true → is_part count records new ≡ true → list_all (is_part count records) now ≡ true
  each_now each own =
      all_both (is_part count records) (left_parts gone parts) (new ∷ [])
      (all_left gone (is_part count records) (is_part count records) parts (part_left gone count records) each) (and_from (is_part count records new) true own refl)

  placed_now : list_all (λ part. are_segments part.records part.segments) parts ≡ true → are_segments new.records new.segments ≡ true → list_all (λ part. are_segments part.records part.segments) now ≡ true
  placed_now all own =
      all_both (λ (part : PartNumbers Extent). are_segments part.records part.segments) (left_parts gone parts) (new ∷ [])
      (all_left gone (λ (part : PartNumbers Extent). are_segments part.records part.segments) (λ (part : PartNumbers Extent). are_segments part.records part.segments) parts (λ part own stays. own) all)
      (and_from (are_segments new.records new.segments) true own refl)

some_versions : (d : SetNumbers Extent Extent) → are_versions d.versions ≡ true → 1 ≤ length d.versions
some_versions d are = by d.versions are
  where
    by : (vs : List (VersionNumbers Extent)) → are_versions vs ≡ true → 1 ≤ length vs
    by [] are = absurd cc
    by (v ∷ vs) are = omega arith

-- there are partitions, so their next number isn't the first
next_some : (count next : ℕ) (parts : List (PartNumbers Extent)) → 1 ≤ count → list_all (λ vid. parts_serving parts vid == 1) (counted 1 count) ≡ true → list_all (λ part. nat_lt part.id next) parts ≡ true → 1 ≤ next
next_some zero next parts some once below = absurd (omega (arith, some))
next_some (suc count) next [] some once below = absurd cc
next_some (suc count) next (part ∷ parts) some once below =
    omega (arith, ltb-true part.id next (and_parts (nat_lt part.id next) (list_all (λ (p : PartNumbers Extent). nat_lt p.id next) parts) below).0)

-- ---- the plan after the flip

threshold_now : (p q : ℕ) (plan : PlanNumbers Extent) (next : Option (PlanNumbers Extent)) → is_threshold_for p q (Some plan) ≡ true → is_threshold_for p q next ≡ true
threshold_now p q plan next is =
    elim (or_cases (is_threshold p q) ((p == 0 && q == 0) && false) is) [
      | inl given ↦ or_left (is_threshold p q) ((p == 0 && q == 0) && is_none next) given
      | inr none ↦ (let no = (and_parts (p == 0 && q == 0) false none).1 in absurd cc)
    ]

module _ (d : SetNumbers Extent Extent) (plan : PlanNumbers Extent) where
  abbrev ours : TargetNumbers
  ours = current plan

  abbrev behind : List TargetNumbers
  behind = targets_from (plan.at + 1) plan.targets

  abbrev vids_behind : List ℕ
  vids_behind = flat_map (λ (u : TargetNumbers). u.versions) behind

  abbrev own : PartNumbers Extent
  own = target_part d.next_part d.parts plan

  abbrev after : List (PartNumbers Extent)
  after = left_parts ours.versions d.parts ++ own ∷ []

  abbrev next : PlanNumbers Extent
  next = record { p = plan.p; q = plan.q; targets = plan.targets; at = plan.at + 1; copied = 0; segments = [] }

  record Turns : Type 0 where
    left : targets_from plan.at plan.targets ≡ ours ∷ behind
    target : is_target (length d.versions) d.records ours behind ≡ true
    targets : are_targets (length d.versions) d.records plan.targets ≡ true
    source : is_source d.parts ours (map (λ u. u.versions) behind) ≡ true
    sources : are_sources d.parts (ours.versions ++ vids_behind) behind ≡ true

  turns_of : is_plan d (Some plan) ≡ true → Turns
  turns_of is =
      let halves = and_parts _ _ is
      in let counts = and_parts (nat_lt plan.at (length plan.targets)) (nat_le (plan.copied + ours.kept_records) ours.size) halves.0
      in let both = and_parts (are_targets (length d.versions) d.records plan.targets) _ halves.1
      in let first : targets_from plan.at plan.targets ≡ ours ∷ behind = from_next plan.at plan.targets (ltb-true plan.at (length plan.targets) counts.0)
      in let all : are_targets (length d.versions) d.records (ours ∷ behind) ≡ true =
      subst (λ (ts : List TargetNumbers). are_targets (length d.versions) d.records ts ≡ true) first (targets_on (length d.versions) d.records plan.at plan.targets both.0)
      in let from : are_sources d.parts (ours.versions ++ vids_behind) (ours ∷ behind) ≡ true =
      subst (λ (ts : List TargetNumbers). are_sources d.parts (flat_map (λ (u : TargetNumbers). u.versions) ts) ts ≡ true) first both.1
      in let split = and_parts (is_source d.parts ours (map (λ (u : TargetNumbers). u.versions) behind) && list_all (serves_only ours.source (ours.versions ++ vids_behind)) d.parts)
      (are_sources d.parts (ours.versions ++ vids_behind) behind) from
      in record {
        left = first;
        target = (and_parts (is_target (length d.versions) d.records ours behind) (are_targets (length d.versions) d.records behind) all).0;
        targets = both.0;
        source = (and_parts (is_source d.parts ours (map (λ (u : TargetNumbers). u.versions) behind)) (list_all (serves_only ours.source (ours.versions ++ vids_behind)) d.parts) split.0).0;
        sources = split.1;
      }

  own_part : Turns → ours.kept_records + plan.copied ≡ ours.size → is_part (length d.versions) d.records own ≡ true
  own_part turns full =
      let halves = and_parts (not (length ours.versions == 0) && are_there (length d.versions) ours.versions) _ turns.target
      in let some = and_parts (not (length ours.versions == 0)) (are_there (length d.versions) ours.versions) halves.0
      in let size = and_parts (not (list_any (λ (u : TargetNumbers). meets u.versions ours.versions) behind)) (nat_le ours.size d.records) halves.1
      in let up = and_parts (ascend_from 1 ours.versions) (list_all (λ vid. nat_le vid (length d.versions)) ours.versions) some.1
      in and_from _ _ (and_from _ _ some.0 (all_by (is_one ours.versions) ours.versions (λ n there. there)))
      (and_from _ _ (and_from _ _ up.0 some.1) (le-leb (ours.kept_records + plan.copied) d.records (omega (arith, full, leb-true ours.size d.records size.1))))

  -- none of the targets behind has one of its versions
  behind_apart : Turns → list_any (λ u. meets u.versions ours.versions) behind ≡ false
  behind_apart turns =
      let halves = and_parts (not (length ours.versions == 0) && are_there (length d.versions) ours.versions) _ turns.target
      in not-true _ (and_parts (not (list_any (λ (u : TargetNumbers). meets u.versions ours.versions) behind)) (nat_le ours.size d.records) halves.1).0

  left_few : (b : Bool) → length (targets_left (if b then Some next else None)) ≤ length behind
  left_few true = omega arith
  left_few false = omega arith

  copied_none : (b : Bool) → are_copied (if b then Some next else None) ≡ true
  copied_none true = refl
  copied_none false = refl

  runs_next : (b : Bool) → RunsAt d.threshold (Some plan) → RunsAt d.threshold (if b then Some next else None)
  runs_next true runs = runs
  runs_next false runs = tt

  plan_next : (b : Bool) → nat_lt (plan.at + 1) (length plan.targets) ≡ b → Turns → are_sources after vids_behind behind ≡ true → is_plan (flipped_by (Some plan) d) (if b then Some next else None) ≡ true
  plan_next false e turns there = refl
  plan_next true e turns there =
      let first : behind ≡ current next ∷ targets_from (plan.at + 1 + 1) plan.targets = from_next (plan.at + 1) plan.targets (ltb-true (plan.at + 1) (length plan.targets) e)
      in let most = first_within after vids_behind behind (targets_from (plan.at + 1 + 1) plan.targets) (current next) first there
      in and_from _ _ (and_from _ _ e (le-leb (0 + (current next).kept_records) (current next).size (omega (arith, most)))) (and_from _ _ turns.targets there)

-- ---- all of it

module _ (d : SetNumbers Extent Extent) (plan : PlanNumbers Extent) (whole : IsWhole d) (e : d.plan ≡ Some plan) (full : (current plan).kept_records + plan.copied ≡ (current plan).size) where
  turns : Turns d plan
  turns = turns_of d plan (subst (λ (o : Option (PlanNumbers Extent)). is_plan d o ≡ true) e whole.plan)

  were : HasParts d
  were = parts_are d whole.parts

  some : 1 ≤ d.next_part
  some = next_some (length d.versions) d.next_part d.parts (some_versions d whole.versions) were.once were.below

  room : d.next_part + 1 + length (targets_left (next_target plan)) + (65535 - length d.versions) < 2 ^ 32
  room =
      let left : length (targets_left d.plan) ≡ length (ours d plan ∷ behind d plan) =
      ap (λ (o : Option (PlanNumbers Extent)). length (targets_left o)) e ∙ ap (λ (ts : List TargetNumbers). length ts) turns.left
      in let few = left_few d plan (nat_lt (plan.at + 1) (length plan.targets))
      in omega (arith, left, few, were.room)

  parts_flipped : are_parts (flipped_by (Some plan) d) ≡ true
  parts_flipped = parts_test (flipped_by (Some plan) d) (record {
    ids = ids_now (length d.versions) d.records d.next_part d.parts (own d plan) refl some were.ids were.below;
    below = below_now (length d.versions) d.records d.next_part d.parts (own d plan) refl were.below;
    once = all_more (λ vid. parts_serving d.parts vid == 1) (λ vid. parts_serving (after d plan) vid == 1) (counted 1 (length d.versions))
        (once_now (length d.versions) d.records d.next_part d.parts (own d plan) refl) were.once;
    each = each_now (length d.versions) d.records d.next_part d.parts (own d plan) refl were.each (own_part d plan turns full);
    room = room;
  })

  sources_flipped : are_sources (after d plan) (vids_behind d plan) (behind d plan) ≡ true
  sources_flipped = sources_left (ours d plan).versions (vids_behind d plan) d.parts (own d plan) (behind d plan) some were.below (behind_apart d plan turns) turns.sources

  placed_flipped : are_placed (flipped_by (Some plan) d) ≡ true
  placed_flipped =
      let lists = and_parts _ _ whole.placed
      in let segments = and_parts (list_all (λ (part : PartNumbers Extent). are_segments part.records part.segments) d.parts) (are_copied d.plan) lists.1
      in let copied : are_segments plan.copied plan.segments ≡ true = subst (λ (o : Option (PlanNumbers Extent)). are_copied o ≡ true) e segments.1
      in let filled : list_all (λ (part : PartNumbers Extent). list_all is_filled part.segments) d.parts ≡ true =
      all_more (λ (part : PartNumbers Extent). are_segments part.records part.segments) (λ (part : PartNumbers Extent). list_all is_filled part.segments) d.parts
      (λ part are. (segments_are part.records part.segments are).0) segments.0
      in let kept = kept_segments d.parts filled (ours d plan) (map (λ (u : TargetNumbers). u.versions) (behind d plan)) turns.source
      in let new : are_segments (own d plan).records (own d plan).segments ≡ true =
      segments_both (ours d plan).kept_records plan.copied (chosen (ours d plan).kept (segments_at (ours d plan).source d.parts)) plan.segments kept copied
      in and_from _ _ lists.0
      (and_from _ _ (placed_now (length d.versions) d.records d.next_part d.parts (own d plan) refl segments.0 new) (copied_none d plan (nat_lt (plan.at + 1) (length plan.targets))))

  flipped_whole : IsWhole (flipped_by (Some plan) d)
  flipped_whole = record {
    named = whole.named;
    schema = whole.schema;
    versions = whole.versions;
    messages = whole.messages;
    records = whole.records;
    parts = parts_flipped;
    threshold = threshold_now (p_of d.threshold) (q_of d.threshold) plan (next_target plan)
        (subst (λ (o : Option (PlanNumbers Extent)). is_threshold_for (p_of d.threshold) (q_of d.threshold) o ≡ true) e whole.threshold);
    said = whole.said;
    runs = runs_next d plan (nat_lt (plan.at + 1) (length plan.targets)) (subst (λ (o : Option (PlanNumbers Extent)). RunsAt d.threshold o) e whole.runs);
    plan = plan_next d plan (nat_lt (plan.at + 1) (length plan.targets)) refl turns sources_flipped;
    placed = placed_flipped;
  }

flipped_of : (d : SetNumbers Extent Extent) (plan : Option (PlanNumbers Extent)) → d.plan ≡ plan → IsWhole d → of_running flip_off plan ≡ None → IsWhole (flipped_by plan d)
flipped_of d None e whole off_none = absurd cc
flipped_of d (Some plan) e whole off_none =
    flipped_whole d plan whole e
    (eqb-true ((current plan).kept_records + plan.copied) (current plan).size (off-true ((current plan).kept_records + plan.copied == (current plan).size) off.Count off_none))

pub flip_whole : (d : SetNumbers Extent Extent) → IsWhole d → of_running flip_off d.plan ≡ None → IsWhole (flipped d)
flip_whole d whole off_none = flipped_of d d.plan refl whole off_none
