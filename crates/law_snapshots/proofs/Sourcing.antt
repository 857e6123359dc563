-- A running plan where a version comes. Its targets' sources stay as they may be: a partition of its own has a number that no
-- source has, and the version joins no source, since all versions of a source are in targets that weren't flipped.
--     sources_own, sources_joined      so it is with the sources
--     plan_with      and so with the plan
use Rattle.std.proofs.Common.{◌≡◌, ◌<◌, ◌≤◌, ◌+◌, ℕ, Bool, true, false, cond, not, ◌&&◌, ◌||◌, eqb, List, [], ◌∷◌, ◌++◌, length, map, refl, sym, ap, subst, ◌∙◌, inl, inr, arith}
use Rattle.std.specs.Prelude.{Option, Some, None, flat_map, nat_le, nat_lt, if◌then◌else◌}
use Rattle.std.specs.List.{list_all, list_any}
use Rattle.std.specs.Option.{option_or}
use Rattle.std.proofs.lemmas.Bool.{cases_Bool, and_from, and_parts, or_left, not_from_false, ne_eqb, eqb-true, le-leb, leb-true, ltb-true}
use Rattle.std.proofs.lemmas.List.Folds.{find-append, list_any-append}
use Rattle.ov_host.specs.declared.area.Extent.{Extent}
use Rattle.ov_catalog.specs.Events.{current, is_one, own_part, join_at}
use Rattle.ov_catalog.specs.Numbers.{PartNumbers, TargetNumbers, PlanNumbers, SetNumbers}
use Rattle.ov_catalog.specs.Planning.{ascend_from, meets, is_kept, is_source}
use Rattle.ov_catalog.specs.Testing.{part_numbered, targets_from}
use Rattle.ov_catalog.specs.Wholes.{are_there, is_target, are_targets, serves_only, are_sources, is_plan}
use Rattle.law_snapshots.proofs.Tests.{all_push, at_most}
use Rattle.law_snapshots.proofs.PartTests.{all_at}
use Rattle.law_snapshots.proofs.Joining.{numbered_passes, numbered_id, all_joined}

-- ---- targets, with more versions and records there

target_more : (count more records all : ℕ) (t : TargetNumbers) (later : List TargetNumbers) → count ≤ more → records ≤ all → is_target count records t later ≡ true → is_target more all t later ≡ true
target_more count more records all t later le few h =
    let apart = not (list_any (λ (u : TargetNumbers). meets u.versions t.versions) later) in
    let halves = and_parts (not (eqb (length t.versions) 0) && are_there count t.versions) (apart && nat_le t.size records) h in
    let some = and_parts (not (eqb (length t.versions) 0)) (are_there count t.versions) halves.0 in
    let there = and_parts (ascend_from 1 t.versions) (list_all (λ (vid : ℕ). nat_le vid count) t.versions) some.1 in
    let rest = and_parts apart (nat_le t.size records) halves.1 in
    let size = leb-true t.size records rest.1 in
    and_from (not (eqb (length t.versions) 0) && are_there more t.versions) (apart && nat_le t.size all)
    (and_from (not (eqb (length t.versions) 0)) (are_there more t.versions) some.0
    (and_from (ascend_from 1 t.versions) (list_all (λ (vid : ℕ). nat_le vid more) t.versions) there.0 (at_most count more t.versions le there.1)))
    (and_from apart (nat_le t.size all) rest.0 (le-leb t.size all (omega (arith, size, few))))

targets_more : (count more records all : ℕ) (ts : List TargetNumbers) → count ≤ more → records ≤ all → are_targets count records ts ≡ true → are_targets more all ts ≡ true
targets_more count more records all [] le few h = refl
targets_more count more records all (t ∷ ts) le few h =
    let both = and_parts (is_target count records t ts) (are_targets count records ts) h in
    and_from (is_target more all t ts) (are_targets more all ts) (target_more count more records all t ts le few both.0) (targets_more count more records all ts le few both.1)

-- ---- a partition of its own

kept_there : (t : TargetNumbers) (later : List (List ℕ)) (o other : Option (PartNumbers Extent)) → is_kept t later o ≡ true → is_kept t later (option_or o other) ≡ true
kept_there t later None other h = absurd cc
kept_there t later (Some part) other h = h

source_own : (own : PartNumbers Extent) (parts : List (PartNumbers Extent)) (t : TargetNumbers) (later : List (List ℕ)) → is_source parts t later ≡ true → is_source (parts ++ own ∷ []) t later ≡ true
source_own own parts t later h =
    let more = find-append (λ (part : PartNumbers Extent). eqb part.id t.source) parts (own ∷ []) in
    elim (cases_Bool (eqb t.source 0)) [
      | inl e ↦ rw e (rw e at h)
      | inr e ↦
          rw e (subst (λ (o : Option (PartNumbers Extent)). is_kept t later o ≡ true) (sym more) (kept_there t later (part_numbered parts t.source) (part_numbered (own ∷ []) t.source) (rw e at h)))
    ]

-- a source has a number below the next one
kept_below : (next : ℕ) (t : TargetNumbers) (later : List (List ℕ)) (parts : List (PartNumbers Extent)) (o : Option (PartNumbers Extent)) → part_numbered parts t.source ≡ o → is_kept t later o ≡ true
    → list_all (λ (part : PartNumbers Extent). nat_lt part.id next) parts ≡ true → t.source < next
kept_below next t later parts None found h low = absurd cc
kept_below next t later parts (Some part) found h low =
    let lt = ltb-true part.id next (numbered_passes (λ (x : PartNumbers Extent). nat_lt x.id next) parts t.source part low found) in
    let same = numbered_id parts t.source part found in
    omega (arith, lt, same)

source_below : (next : ℕ) (t : TargetNumbers) (later : List (List ℕ)) (parts : List (PartNumbers Extent)) → 1 ≤ next → list_all (λ (part : PartNumbers Extent). nat_lt part.id next) parts ≡ true
    → is_source parts t later ≡ true → t.source < next
source_below next t later parts first low h =
    elim (cases_Bool (eqb t.source 0)) [
      | inl e ↦ let none = eqb-true t.source 0 e in omega (arith, none, first)
      | inr e ↦ kept_below next t later parts (part_numbered parts t.source) refl (rw e at h) low
    ]

pub sources_own : (next vid added : ℕ) (segments : List Extent) (parts : List (PartNumbers Extent)) (vids : List ℕ) (ts : List TargetNumbers) → 1 ≤ next
    → list_all (λ (part : PartNumbers Extent). nat_lt part.id next) parts ≡ true → are_sources parts vids ts ≡ true → are_sources (parts ++ own_part next vid added segments ∷ []) vids ts ≡ true
sources_own next vid added segments parts vids [] first low h = refl
sources_own next vid added segments parts vids (t ∷ ts) first low h =
    let own = own_part next vid added segments in
    let later = map (λ (u : TargetNumbers). u.versions) ts in
    let both = and_parts (is_source parts t later && list_all (serves_only t.source vids) parts) (are_sources parts vids ts) h in
    let here = and_parts (is_source parts t later) (list_all (serves_only t.source vids) parts) both.0 in
    let lt = source_below next t later parts first low here.0 in
    let apart = or_left (not (eqb next t.source)) (list_all (is_one vids) (vid ∷ [])) (not_from_false (eqb next t.source) (ne_eqb next t.source (λ same. omega (arith, same, lt)))) in
    and_from (is_source (parts ++ own ∷ []) t later && list_all (serves_only t.source vids) (parts ++ own ∷ [])) (are_sources (parts ++ own ∷ []) vids ts)
    (and_from (is_source (parts ++ own ∷ []) t later) (list_all (serves_only t.source vids) (parts ++ own ∷ [])) (source_own own parts t later here.0)
    (all_push (serves_only t.source vids) parts own here.1 apart))
    (sources_own next vid added segments parts vids ts first low both.1)

-- ---- a partition that is joined

join_numbered : (id vid added : ℕ) (segments : List Extent) (parts : List (PartNumbers Extent)) (other : ℕ) → eqb id other ≡ false
    → part_numbered parts other ≡ part_numbered (join_at id vid added segments parts) other
join_numbered id vid added segments [] other apart = refl
join_numbered id vid added segments (part ∷ parts) other apart =
    elim (cases_Bool (eqb part.id id)) [
      | inl e ↦ let away : eqb part.id other ≡ false = ap (λ (n : ℕ). eqb n other) (eqb-true part.id id e) ∙ apart in rw (e, away) refl
      | inr e ↦ rw e (ap (λ (o : Option (PartNumbers Extent)). cond (eqb part.id other) (Some part) o) (join_numbered id vid added segments parts other apart))
    ]

source_joined : (id vid added : ℕ) (segments : List Extent) (parts : List (PartNumbers Extent)) (t : TargetNumbers) (later : List (List ℕ)) → eqb id t.source ≡ false → is_source parts t later ≡ true
    → is_source (join_at id vid added segments parts) t later ≡ true
source_joined id vid added segments parts t later apart h =
    subst (λ (o : Option (PartNumbers Extent)). (if eqb t.source 0 then eqb (length t.kept) 0 && eqb t.kept_records 0 else is_kept t later o) ≡ true) (join_numbered id vid added segments parts t.source apart) h

-- a partition that serves another version than these isn't the one that serves only these
other_source : (source : ℕ) (vids : List ℕ) (part : PartNumbers Extent) (vid : ℕ) → serves_only source vids part ≡ true → is_one part.versions vid ≡ true → is_one vids vid ≡ false
    → eqb part.id source ≡ false
other_source source vids part vid h serves away =
    elim (cases_Bool (eqb part.id source)) [
      | inl e ↦ let all : list_all (is_one vids) part.versions ≡ true = rw e at h in let there = all_at (is_one vids) part.versions vid all serves in absurd cc
      | inr e ↦ e
    ]

pub sources_joined : (id new added : ℕ) (segments : List Extent) (parts : List (PartNumbers Extent)) (vids : List ℕ) (part : PartNumbers Extent) (vid : ℕ) (ts : List TargetNumbers)
    → part_numbered parts id ≡ Some part → is_one part.versions vid ≡ true → is_one vids vid ≡ false → are_sources parts vids ts ≡ true
    → are_sources (join_at id new added segments parts) vids ts ≡ true
sources_joined id new added segments parts vids part vid [] found serves away h = refl
sources_joined id new added segments parts vids part vid (t ∷ ts) found serves away h =
    let later = map (λ (u : TargetNumbers). u.versions) ts in
    let both = and_parts (is_source parts t later && list_all (serves_only t.source vids) parts) (are_sources parts vids ts) h in
    let here = and_parts (is_source parts t later) (list_all (serves_only t.source vids) parts) both.0 in
    let only = numbered_passes (serves_only t.source vids) parts id part here.1 found in
    let other : eqb id t.source ≡ false = ap (λ (n : ℕ). eqb n t.source) (sym (numbered_id parts id part found)) ∙ other_source t.source vids part vid only serves away in
    let new_parts = join_at id new added segments parts in
    and_from (is_source new_parts t later && list_all (serves_only t.source vids) new_parts) (are_sources new_parts vids ts)
    (and_from (is_source new_parts t later) (list_all (serves_only t.source vids) new_parts) (source_joined id new added segments parts t later other here.0)
    (all_joined (serves_only t.source vids) (serves_only t.source vids) id new added segments parts (λ x same. same)
    (λ x there same. or_left (not (eqb x.id t.source)) (list_all (is_one vids) (x.versions ++ new ∷ []))
    (not_from_false (eqb x.id t.source) (ap (λ (n : ℕ). eqb n t.source) (numbered_id parts id x there) ∙ other))) here.1))
    (sources_joined id new added segments parts vids part vid ts found serves away both.1)

-- ---- the plan

abbrev pub vids_of : List TargetNumbers → List ℕ
vids_of ts = flat_map (λ t. t.versions) ts

pub unmoved_one : (ts : List TargetNumbers) (vid : ℕ) → is_one (vids_of ts) vid ≡ list_any (λ (t : TargetNumbers). list_any (λ (v : ℕ). eqb v vid) t.versions) ts
unmoved_one [] vid = refl
unmoved_one (t ∷ ts) vid = list_any-append (λ (v : ℕ). eqb v vid) t.versions (vids_of ts) ∙ ap (λ (b : Bool). is_one t.versions vid || b) (unmoved_one ts vid)

abbrev pub left_of : PlanNumbers Extent → List TargetNumbers
left_of plan = targets_from plan.at plan.targets

-- it stays a plan where the sources stay
pub plan_with : (d new : SetNumbers Extent Extent) (plan : PlanNumbers Extent) → length d.versions ≤ length new.versions → d.records ≤ new.records
    → (are_sources d.parts (vids_of (left_of plan)) (left_of plan) ≡ true → are_sources new.parts (vids_of (left_of plan)) (left_of plan) ≡ true)
    → is_plan d (Some plan) ≡ true → is_plan new (Some plan) ≡ true
plan_with d new plan le few stay h =
    let left = left_of plan in
    let now = nat_lt plan.at (length plan.targets) && nat_le (plan.copied + (current plan).kept_records) (current plan).size in
    let halves = and_parts now (are_targets (length d.versions) d.records plan.targets && are_sources d.parts (vids_of left) left) h in
    let rest = and_parts (are_targets (length d.versions) d.records plan.targets) (are_sources d.parts (vids_of left) left) halves.1 in
    and_from now (are_targets (length new.versions) new.records plan.targets && are_sources new.parts (vids_of left) left) halves.0
    (and_from (are_targets (length new.versions) new.records plan.targets) (are_sources new.parts (vids_of left) left)
    (targets_more (length d.versions) (length new.versions) d.records new.records plan.targets le few rest.0) (stay rest.1))
