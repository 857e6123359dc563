-- A dataset that a Whole may say is one still with a version more, and with columns that came with it.
--     commit_whole, wide_whole      so it is with a Commit and with a Wide that apply
use Rattle.std.proofs.Common.{◌≡◌, ◌≤◌, ◌+◌, ◌^◌, ℕ, Bool, true, false, ◌&&◌, ◌||◌, eqb, List, [], ◌∷◌, ◌++◌, length, map, refl, sym, ap, subst, ◌∙◌, arith}
use Rattle.std.specs.Prelude.{Option, Some, None, is_ok, nat_le, nat_lt, if◌then◌else◌}
use Rattle.std.specs.List.{list_all, sum_by}
use Rattle.std.proofs.lemmas.Bool.{and_from, and_parts, eq-eqb, eqb-true, le-leb, leb-true, ltb-true}
use Rattle.std.proofs.lemmas.List.{append-nil, append_assoc, length_push}
use Rattle.std.proofs.lemmas.List.Sums.{sum_by-cons, sum_by_push}
use Rattle.ov_graph.specs.Versions.{heaviest}
use Rattle.ov_host.specs.declared.area.Extent.{Extent}
use Rattle.ov_layout.specs.Changes.{extents_of}
use Rattle.ov_place.specs.Placement.{placed, is_budgeted}
use Rattle.ov_place.specs.declared.place_facts.Place.{Place}
use Rattle.ov_place.specs.declared.place_facts.Place.TheVariants.{Own, Join}
use Rattle.ov_value.specs.declared.column.Column.{Column}
use Rattle.ov_value.specs.Making.{widened}
use Rattle.ov_catalog.specs.declared.field.Field.TheVariants as off
use Rattle.ov_catalog.specs.Events.{is_one, own_part, parts_with, version_of, with_version, with_columns}
use Rattle.ov_catalog.specs.Numbers.{VersionNumbers, PartNumbers, PlanNumbers, SetNumbers}
use Rattle.ov_catalog.specs.Testing.{off_unless, is_list, is_segment, rows_at, is_parent, are_parents, are_distinct, facts_of, is_place, is_count, is_unmoved, records_in, part_numbered, version_off, commit_off, wide_off}
use Rattle.ov_catalog.specs.Wholes.{parents_follow, are_versions, are_rows, are_records, are_parts, is_plan, are_segments, are_copied, are_placed, parts_serving}
use Rattle.ov_catalog.proofs.CommitLemmas.{off-none, off-true, heaviest-passes}
use Rattle.law_snapshots.specs.Whole.{IsWhole}
use Rattle.law_snapshots.proofs.Joining.{AreParted, Serves, all_joined, is_served, join_parted, numbered_passes, own_parted, parted_facts, parted_test}
use Rattle.law_snapshots.proofs.Sourcing.{left_of, plan_with, sources_joined, sources_own, unmoved_one, vids_of}
use Rattle.law_snapshots.proofs.Tests.{all_push, counted_at, of_segment, segments_append}
use Rattle.law_snapshots.proofs.Widening.{wide_schema_is}

-- ---- what the tests of a version say

record Fits (parents : List (ℕ × ℕ)) (rows fresh : ℕ) (place : Place) (added : ℕ) (list segment : Extent) (d : SetNumbers Extent Extent) : Type 0 where
  parents_are : are_parents d.versions rows parents ≡ true
  few : rows ≤ 1000000
  own : fresh ≤ rows
  of_all : rows ≤ d.records + fresh
  all_few : d.records + fresh ≤ 2 ^ 31
  at : is_place place (placed (facts_of d (heaviest parents))) ≡ true
  count : is_count d rows fresh added place ≡ true
  list_is : is_list rows list ≡ true
  segment_is : is_segment added segment ≡ true

fits : (parents : List (ℕ × ℕ)) (rows fresh : ℕ) (place : Place) (added : ℕ) (list segment : Extent) (d : SetNumbers Extent Extent)
    → version_off parents rows fresh place added list segment d ≡ None → Fits parents rows fresh place added list segment d
fits parents rows fresh place added list segment d h =
    let named = off-none (are_parents d.versions rows parents) off.Parent _ h in
    let sums = off-none (nat_le rows 1000000 && (nat_le fresh rows && (nat_le rows (d.records + fresh) && nat_le (d.records + fresh) (2 ^ 31)))) off.Rows _ named.1 in
    let at = off-none (is_place place (placed (facts_of d (heaviest parents)))) off.Placing _ sums.1 in
    let count = off-none (is_count d rows fresh added place) off.Count (off_unless (is_list rows list && is_segment added segment) off.Place) at.1 in
    let extents = and_parts (is_list rows list) (is_segment added segment) (off-true (is_list rows list && is_segment added segment) off.Place count.1) in
    let few = and_parts (nat_le rows 1000000) _ sums.0 in
    let own = and_parts (nat_le fresh rows) _ few.1 in
    let all = and_parts (nat_le rows (d.records + fresh)) (nat_le (d.records + fresh) (2 ^ 31)) own.1 in
    record {
      parents_are = named.0;
      few = leb-true rows 1000000 few.0;
      own = leb-true fresh rows own.0;
      of_all = leb-true rows (d.records + fresh) all.0;
      all_few = leb-true (d.records + fresh) (2 ^ 31) all.1;
      at = at.0;
      count = count.0;
      list_is = extents.0;
      segment_is = extents.1;
    }

-- ---- versions and records

parents_push : (done vs : List (VersionNumbers Extent)) (v : VersionNumbers Extent) → parents_follow done vs ≡ true → are_parents (done ++ vs) v.rows v.parents ≡ true
    → parents_follow done (vs ++ v ∷ []) ≡ true
parents_push done [] v h are = and_from (are_parents done v.rows v.parents) true (subst (λ (us : List (VersionNumbers Extent)). are_parents us v.rows v.parents ≡ true) (append-nil done) are) refl
parents_push done (u ∷ vs) v h are =
    let both = and_parts (are_parents done u.rows u.parents) (parents_follow (done ++ u ∷ []) vs) h in
    let behind : (done ++ u ∷ []) ++ vs ≡ done ++ u ∷ vs = append_assoc done (u ∷ []) vs in
    and_from (are_parents done u.rows u.parents) (parents_follow (done ++ u ∷ []) (vs ++ v ∷ [])) both.0
    (parents_push (done ++ u ∷ []) vs v both.1 (subst (λ (us : List (VersionNumbers Extent)). are_parents us v.rows v.parents ≡ true) (sym behind) are))

versions_push : (vs : List (VersionNumbers Extent)) (v : VersionNumbers Extent) → length vs + 1 ≤ 65535 → are_versions vs ≡ true → are_parents vs v.rows v.parents ≡ true
    → are_versions (vs ++ v ∷ []) ≡ true
versions_push [] v few h are = absurd cc
versions_push (u ∷ vs) v few h are =
    let long = length_push (u ∷ vs) v in
    let halves = and_parts (nat_le (length (u ∷ vs)) 65535) _ h in
    let rest = and_parts (eqb (length u.parents) 0) (parents_follow (u ∷ []) vs) halves.1 in
    and_from (nat_le (length (u ∷ vs ++ v ∷ [])) 65535) (eqb (length u.parents) 0 && parents_follow (u ∷ []) (vs ++ v ∷ [])) (le-leb (length (u ∷ vs ++ v ∷ [])) 65535 (omega (arith, long, few)))
    (and_from (eqb (length u.parents) 0) (parents_follow (u ∷ []) (vs ++ v ∷ [])) rest.0 (parents_push (u ∷ []) vs v rest.1 are))

abbrev fresh_in : List (VersionNumbers Extent) → ℕ
fresh_in vs = sum_by (λ v. v.fresh) vs

rows_push : (done : ℕ) (vs : List (VersionNumbers Extent)) (v : VersionNumbers Extent) → are_rows done vs ≡ true → v.rows ≤ 1000000 → v.rows ≤ done + fresh_in vs + v.fresh
    → v.fresh ≤ v.rows → are_rows done (vs ++ v ∷ []) ≡ true
rows_push done [] v h few of_all own =
    and_from (nat_le v.rows 1000000 && (nat_le v.rows (done + v.fresh) && nat_le v.fresh v.rows)) true
    (and_from (nat_le v.rows 1000000) (nat_le v.rows (done + v.fresh) && nat_le v.fresh v.rows) (le-leb v.rows 1000000 few)
    (and_from (nat_le v.rows (done + v.fresh)) (nat_le v.fresh v.rows) (le-leb v.rows (done + v.fresh) (omega (arith, of_all))) (le-leb v.fresh v.rows own))) refl
rows_push done (u ∷ vs) v h few of_all own =
    let both = and_parts (nat_le u.rows 1000000 && (nat_le u.rows (done + u.fresh) && nat_le u.fresh u.rows)) (are_rows (done + u.fresh) vs) h in
    let sum = sum_by-cons (λ (x : VersionNumbers Extent). x.fresh) u vs in
    and_from (nat_le u.rows 1000000 && (nat_le u.rows (done + u.fresh) && nat_le u.fresh u.rows)) (are_rows (done + u.fresh) (vs ++ v ∷ [])) both.0
    (rows_push (done + u.fresh) vs v both.1 few (omega (arith, sum, of_all)) own)

records_push : (d : SetNumbers Extent Extent) (v : VersionNumbers Extent) (place : Place) (added : ℕ) (segments : List Extent) → are_records d ≡ true → v.rows ≤ 1000000
    → v.fresh ≤ v.rows → v.rows ≤ d.records + v.fresh → d.records + v.fresh ≤ 2 ^ 31
    → are_records (with_version v place added segments d) ≡ true
records_push d v place added segments h few own of_all all_few =
    let halves = and_parts (are_rows 0 d.versions) (eqb (fresh_in d.versions) d.records && nat_le d.records (2 ^ 31)) h in
    let rest = and_parts (eqb (fresh_in d.versions) d.records) (nat_le d.records (2 ^ 31)) halves.1 in
    let sum = eqb-true (fresh_in d.versions) d.records rest.0 in
    let more = sum_by_push (λ (x : VersionNumbers Extent). x.fresh) d.versions v in
    let versions = d.versions ++ v ∷ [] in
    let all = d.records + v.fresh in
    and_from (are_rows 0 versions) (eqb (fresh_in versions) all && nat_le all (2 ^ 31)) (rows_push 0 d.versions v halves.0 few (omega (arith, sum, of_all)) own)
    (and_from (eqb (fresh_in versions) all) (nat_le all (2 ^ 31)) (eq-eqb (fresh_in versions) all (omega (arith, sum, more))) (le-leb all (2 ^ 31) all_few))

-- ---- the heaviest parent and its partition

parent_there : (versions : List (VersionNumbers Extent)) (rows : ℕ) (parents : List (ℕ × ℕ)) → are_parents versions rows parents ≡ true
    → (1 ≤ (heaviest parents).0) × ((heaviest parents).0 ≤ length versions)
parent_there versions rows parents h =
    let some = and_parts (nat_le 1 (length parents)) _ h in
    let each = and_parts (list_all (is_parent versions rows) parents) (are_distinct (map (λ (edge : ℕ × ℕ). edge.0) parents)) some.1 in
    let one = heaviest-passes (is_parent versions rows) parents (leb-true 1 (length parents) some.0) each.0 in
    let edge = heaviest parents in
    let places = and_parts (nat_le 1 edge.0 && nat_le edge.0 (length versions)) (nat_le edge.1 rows && nat_le edge.1 (rows_at versions edge.0)) one in
    let range = and_parts (nat_le 1 edge.0) (nat_le edge.0 (length versions)) places.0 in
    (leb-true 1 edge.0 range.0, leb-true edge.0 (length versions) range.1)

part_of : (d : SetNumbers Extent Extent) (vid : ℕ) → AreParted (length d.versions) d.records d.next_part d.parts → 1 ≤ vid → vid ≤ length d.versions
    → (part : PartNumbers Extent) × Serves d.parts vid 1 part
part_of d vid are some le =
    let once = eqb-true (parts_serving d.parts vid) 1 (counted_at (λ (v : ℕ). eqb (parts_serving d.parts v) 1) 1 (length d.versions) vid are.each some (omega (arith, le))) in
    is_served d.parts vid 1 are.rise (omega (arith, once))

-- a version joins the partition of its heaviest parent, which isn't in a target that wasn't flipped
joins_by : (unmoved budgeted : Bool) (id parent : ℕ) → is_place (Join id) (if unmoved || budgeted then Own else Join parent) ≡ true → (unmoved ≡ false) × (id ≡ parent)
joins_by true budgeted id parent h = absurd cc
joins_by false true id parent h = absurd cc
joins_by false false id parent h = (refl, eqb-true id parent h)

-- ---- partitions, the plan and segments

-- what hangs on the version's place: a partition of its own, or one that it joins
record Stays (v : VersionNumbers Extent) (place : Place) (added : ℕ) (segments : List Extent) (d : SetNumbers Extent Extent) : Type 0 where
  parts : are_parts (with_version v place added segments d) ≡ true
  plan : is_plan (with_version v place added segments d) d.plan ≡ true
  placed_are : list_all (λ part. are_segments part.records part.segments) (parts_with place d.next_part (length d.versions + 1) added segments d.parts) ≡ true

abbrev is_listed : VersionNumbers Extent → Bool
is_listed v = is_list v.rows v.list

abbrev is_filled : PartNumbers Extent → Bool
is_filled part = are_segments part.records part.segments

longer : (d : SetNumbers Extent Extent) (v : VersionNumbers Extent) → length (d.versions ++ v ∷ []) ≡ length d.versions + 1
longer d v = length_push d.versions v

segments_before : (d : SetNumbers Extent Extent) → are_placed d ≡ true
    → (list_all is_listed d.versions ≡ true) × (list_all is_filled d.parts ≡ true) × (are_copied d.plan ≡ true)
segments_before d h =
    let lists = and_parts (list_all is_listed d.versions) _ h in
    let rest = and_parts (list_all is_filled d.parts) (are_copied d.plan) lists.1 in
    (lists.0, rest.0, rest.1)

own_plan : (v : VersionNumbers Extent) (added : ℕ) (segments : List Extent) (d : SetNumbers Extent Extent) (plan : Option (PlanNumbers Extent))
    → AreParted (length d.versions) d.records d.next_part d.parts → 1 ≤ d.next_part
    → is_plan d plan ≡ true → is_plan (with_version v Own added segments d) plan ≡ true
own_plan v added segments d None are first h = refl
own_plan v added segments d (Some plan) are first h =
    let left = left_of plan in
    plan_with d (with_version v Own added segments d) plan (omega (arith, longer d v)) (omega arith)
    (λ sources. sources_own d.next_part (length d.versions + 1) added segments d.parts (vids_of left) left first are.below sources) h

join_plan : (v : VersionNumbers Extent) (id added : ℕ) (segments : List Extent) (d : SetNumbers Extent Extent) (part : PartNumbers Extent) (vid : ℕ) (plan : Option (PlanNumbers Extent)) → part_numbered d.parts id ≡ Some part
    → is_one part.versions vid ≡ true → is_unmoved plan vid ≡ false → is_plan d plan ≡ true → is_plan (with_version v (Join id) added segments d) plan ≡ true
join_plan v id added segments d part vid None found serves moved h = refl
join_plan v id added segments d part vid (Some plan) found serves moved h =
    let left = left_of plan in
    plan_with d (with_version v (Join id) added segments d) plan (omega (arith, longer d v)) (omega arith)
    (λ sources. sources_joined id (length d.versions + 1) added segments d.parts (vids_of left) part vid left found serves (unmoved_one left vid ∙ moved) sources) h

own_stays : (v : VersionNumbers Extent) (added : ℕ) (segments : List Extent) (d : SetNumbers Extent Extent) → IsWhole d → length d.versions + 1 ≤ 65535 → 1 ≤ d.next_part
    → added ≤ d.records + v.fresh → are_segments added segments ≡ true
    → Stays v Own added segments d
own_stays v added segments d is few first within segments_are =
    let facts = parted_facts d is.parts in
    let room = facts.1 in
    let long = longer d v in
    let count = length d.versions in
    let parted = own_parted count (length (d.versions ++ v ∷ [])) d.records (d.records + v.fresh) d.next_part added segments d.parts facts.0 long (omega arith) within first in
    record {
      parts = parted_test (with_version v Own added segments d) parted (omega (arith, room, long, few));
      plan = own_plan v added segments d d.plan facts.0 first is.plan;
      placed_are = all_push is_filled d.parts (own_part d.next_part (count + 1) added segments) (segments_before d is.placed).1 segments_are;
    }

join_stays : (v : VersionNumbers Extent) (id added : ℕ) (segments : List Extent) (d : SetNumbers Extent Extent) (part : PartNumbers Extent) (vid : ℕ) → IsWhole d
    → length d.versions + 1 ≤ 65535 → part_numbered d.parts id ≡ Some part
    → part.records + added ≤ d.records + v.fresh → is_one part.versions vid ≡ true → is_unmoved d.plan vid ≡ false → are_segments added segments ≡ true → Stays v (Join id) added segments d
join_stays v id added segments d part vid is few found within serves moved segments_are =
    let facts = parted_facts d is.parts in
    let room = facts.1 in
    let long = longer d v in
    let count = length d.versions in
    let parted = join_parted count (length (d.versions ++ v ∷ [])) d.records (d.records + v.fresh) d.next_part id added segments d.parts part facts.0 long (omega arith) found within in
    record {
      parts = parted_test (with_version v (Join id) added segments d) parted (omega (arith, room, long, few));
      plan = join_plan v id added segments d part vid d.plan found serves moved is.plan;
      placed_are = all_joined is_filled is_filled id (count + 1) added segments d.parts (λ x same. same) (λ x there same. segments_append x.records added x.segments segments same segments_are) (segments_before d is.placed).1;
    }

stays : (parents : List (ℕ × ℕ)) (message : List ℕ) (rows fresh : ℕ) (place : Place) (added : ℕ) (list segment : Extent) (d : SetNumbers Extent Extent) → IsWhole d → length d.versions + 1 ≤ 65535
    → Fits parents rows fresh place added list segment d → Stays (version_of parents message rows fresh list) place added (extents_of segment) d
stays parents message rows fresh Own added list segment d is few fit =
    let are = (parted_facts d is.parts).0 in
    let range = parent_there d.versions rows parents fit.parents_are in
    let one = part_of d (heaviest parents).0 are range.0 range.1 in
    let low = one.1.low in
    let below = ltb-true one.0.id d.next_part (numbered_passes (λ (x : PartNumbers Extent). nat_lt x.id d.next_part) d.parts one.0.id one.0 are.below one.1.numbered) in
    let count : added ≡ rows = eqb-true added rows fit.count in
    let within = fit.of_all in
    own_stays (version_of parents message rows fresh list) added (extents_of segment) d is few (omega (arith, low, below)) (omega (arith, count, within)) (of_segment added segment fit.segment_is)
stays parents message rows fresh (Join id) added list segment d is few fit =
    let are = (parted_facts d is.parts).0 in
    let range = parent_there d.versions rows parents fit.parents_are in
    let edge = heaviest parents in
    let one = part_of d edge.0 are range.0 range.1 in
    let facts = facts_of d edge in
    let joins = joins_by facts.unmoved (is_budgeted facts.threshold facts.weight facts.records facts.stored) id facts.parent fit.at in
    let number : one.0.id ≡ id = sym (joins.1 ∙ one.1.is) in
    let found : part_numbered d.parts id ≡ Some one.0 = subst (λ (n : ℕ). part_numbered d.parts n ≡ Some one.0) number one.1.numbered in
    let held = ap (λ (o : Option (PartNumbers Extent)). records_in o) found in
    let sum = records_in (part_numbered d.parts id) + added in
    let most = leb-true sum (d.records + fresh) (and_parts (nat_le fresh added && nat_le added rows) (nat_le sum (d.records + fresh)) fit.count).1 in
    join_stays (version_of parents message rows fresh list) id added (extents_of segment) d one.0 edge.0 is few found (omega (arith, held, most)) one.1.has joins.0 (of_segment added segment fit.segment_is)

-- ---- all of it

version_whole : (vid : ℕ) (message : List ℕ) (parents : List (ℕ × ℕ)) (rows fresh : ℕ) (place : Place) (added : ℕ) (list segment : Extent) (d : SetNumbers Extent Extent) → IsWhole d
    → (eqb vid (length d.versions + 1) && nat_le vid 65535) ≡ true → nat_le (length message) 1024 ≡ true → version_off parents rows fresh place added list segment d ≡ None
    → IsWhole (with_version (version_of parents message rows fresh list) place added (extents_of segment) d)
version_whole vid message parents rows fresh place added list segment d is vids short h =
    let v = version_of parents message rows fresh list in
    let fit = fits parents rows fresh place added list segment d h in
    let number = and_parts (eqb vid (length d.versions + 1)) (nat_le vid 65535) vids in
    let same = eqb-true vid (length d.versions + 1) number.0 in
    let most = leb-true vid 65535 number.1 in
    let few : length d.versions + 1 ≤ 65535 = omega (arith, same, most) in
    let stay = stays parents message rows fresh place added list segment d is few fit in
    let before = segments_before d is.placed in
    record {
      named = is.named;
      schema = is.schema;
      versions = versions_push d.versions v few is.versions fit.parents_are;
      messages = all_push (λ (u : VersionNumbers Extent). nat_le (length u.message) 1024) d.versions v is.messages short;
      records = records_push d v place added (extents_of segment) is.records fit.few fit.own fit.of_all fit.all_few;
      parts = stay.parts;
      threshold = is.threshold;
      said = is.said;
      runs = is.runs;
      plan = stay.plan;
      placed =
          and_from (list_all is_listed (d.versions ++ v ∷ [])) _ (all_push is_listed d.versions v before.0 fit.list_is)
          (and_from (list_all is_filled (parts_with place d.next_part (length d.versions + 1) added (extents_of segment) d.parts)) (are_copied d.plan) stay.placed_are before.2);
    }

pub commit_whole : (vid : ℕ) (message : List ℕ) (parents : List (ℕ × ℕ)) (rows fresh : ℕ) (place : Place) (added : ℕ) (list segment : Extent) (d : SetNumbers Extent Extent) → IsWhole d
    → commit_off vid message parents rows fresh place added list segment d ≡ None → IsWhole (with_version (version_of parents message rows fresh list) place added (extents_of segment) d)
commit_whole vid message parents rows fresh place added list segment d is h =
    let vids = off-none (eqb vid (length d.versions + 1) && nat_le vid 65535) off.Vid _ h in
    let short = off-none (nat_le (length message) 1024) off.Message _ vids.1 in
    version_whole vid message parents rows fresh place added list segment d is vids.0 short.0 short.1

-- columns change nothing but the schema
columns_whole : (columns : List Column) (d : SetNumbers Extent Extent) → IsWhole d → is_ok (widened d.schema columns) ≡ true → IsWhole (with_columns columns d)
columns_whole columns d is ok = record {
  named = is.named;
  schema = wide_schema_is d.schema columns ok is.schema;
  versions = is.versions;
  messages = is.messages;
  records = is.records;
  parts = is.parts;
  threshold = is.threshold;
  said = is.said;
  runs = is.runs;
  plan = is.plan;
  placed = is.placed;
}

pub wide_whole : (vid : ℕ) (message : List ℕ) (columns : List Column) (parents : List (ℕ × ℕ)) (rows fresh : ℕ) (place : Place) (added : ℕ) (list segment : Extent) (d : SetNumbers Extent Extent) → IsWhole d
    → wide_off vid message columns parents rows fresh place added list segment d ≡ None
    → IsWhole (with_version (version_of parents message rows fresh list) place added (extents_of segment) (with_columns columns d))
wide_whole vid message columns parents rows fresh place added list segment d is h =
    let vids = off-none (eqb vid (length d.versions + 1) && nat_le vid 65535) off.Vid _ h in
    let short = off-none (nat_le (length message) 1024) off.Message _ vids.1 in
    let wider = off-none (is_ok (widened d.schema columns)) off.Schema _ short.1 in
    version_whole vid message parents rows fresh place added list segment (with_columns columns d) (columns_whole columns d is wider.0) vids.0 short.0 wider.1
