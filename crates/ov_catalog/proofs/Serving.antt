-- Each version of numbers that events lead to is in a partition, and so is the place of a commit that applies.
use Rattle.std.proofs.Common.{◌≡◌, ◌⊎◌, inl, inr, ℕ, zero, suc, ◌+◌, ◌-◌, ◌<◌, ◌≤◌, ◌^◌, ◌∙◌, Bool, true, false, ◌&&◌, ◌||◌, ◌==◌, List, [], ◌∷◌, ◌++◌, length, map, refl, sym, ap, subst, arith, length-append}
use Rattle.std.specs.Prelude.{Option, Some, None, not, nat_le, nat_lt, if◌then◌else◌, filter, find, cond}
use Rattle.std.specs.List.{list_any, list_all}
use Rattle.std.specs.Option.{option_or}
use Rattle.std.proofs.lemmas.Bool.{cases_Bool, eqb-true, leb-true, ne_eqb, cases_lt}
use Rattle.std.proofs.lemmas.Bool.Decides.{Decides-eqb}
use Rattle.std.proofs.lemmas.List.Sums.{sum_by-cons}
use Rattle.ov_host.specs.declared.area.Extent.{Extent}
use Rattle.ov_event.specs.declared.event.Event as raw
use Rattle.ov_event.specs.declared.event.Event.TheVariants as says
use Rattle.ov_event.specs.declared.whole.Whole.{Whole}
use Rattle.ov_graph.specs.Versions.{heaviest}
use Rattle.ov_place.specs.Placement.{placed, is_budgeted}
use Rattle.ov_place.specs.declared.place_facts.Place.{Place}
use Rattle.ov_place.specs.declared.place_facts.Place.TheVariants.{Own, Join}
use Rattle.ov_layout.specs.Changes.{extents_of}
use Rattle.ov_value.specs.declared.column.Column.{Column}
use Rattle.ov_model.specs.Records.{counted}
use Rattle.ov_model.proofs.Counting.{listed, stays_times}
use Rattle.law_partitions.proofs.PieceFlip.{is_listed}
use Rattle.ov_catalog.specs.declared.field.Field.{Field}
use Rattle.ov_catalog.specs.declared.field.Field.TheVariants as off
use Rattle.ov_catalog.specs.Numbers.{VersionNumbers, PartNumbers, PlanNumbers, SetNumbers, Numbers, nothing_yet}
use Rattle.ov_catalog.specs.Events.{own_part, with_joined, join_at, parts_with, version_of, with_columns, with_version, planned, copied_more, is_one, leaving, is_empty, left_parts, current, target_part, flipped_by, flipped, numbered, change, applied, replayed}
use Rattle.ov_catalog.specs.Applying.{AllFollow, Stage, columns_off, first_off, format_off, message_off, off_at, off_unless, start_of, version_off, vid_off, wide_off, commit_off, of_live, are_distinct, are_parents, is_count, is_list, is_parent, is_segment, facts_of, is_place, part_serving, rows_at, id_in, set_numbered}
use Rattle.ov_catalog.specs.Planning.{ascend_from, plan_off, of_running, copy_off, flip_off}
use Rattle.ov_catalog.specs.Raw.{event_in, place_in, numbers_in, whole_in}
use Rattle.ov_catalog.specs.Wholes.{are_parts, is_part, parts_serving, targets_left, whole_off}
use Rattle.ov_catalog.proofs.CommitLemmas.{heaviest-passes}
use Rattle.ov_catalog.proofs.Following.{along, by_next, follow_more}
use Rattle.ov_catalog.proofs.WholeTests.{passes}

pub and_both : (a b : Bool) → (a && b) ≡ true → (a ≡ true) × (b ≡ true)
and_both true b h = (refl, h)
and_both false b h = absurd cc

pub off_none : (b : Bool) (f : Field) (rest : Option Field) → option_or (off_unless b f) rest ≡ None → (b ≡ true) × (rest ≡ None)
off_none true f rest h = (refl, h)
off_none false f rest h = absurd cc

-- ---- versions in partitions

abbrev pub Set : Type 0
Set = SetNumbers Extent Extent

abbrev has : List ℕ → ℕ → Bool
has vids vid = list_any (λ v. v == vid) vids

-- a version is in one of these partitions
abbrev pub IsServed : List (PartNumbers Extent) → ℕ → Type 0
IsServed [] vid = ⊥
IsServed (part ∷ parts) vid = (has part.versions vid ≡ true) ⊎ IsServed parts vid

-- a partition has this number
abbrev pub IsNumbered : List (PartNumbers Extent) → ℕ → Type 0
IsNumbered [] id = ⊥
IsNumbered (part ∷ parts) id = ((part.id == id) ≡ true) ⊎ IsNumbered parts id

-- so does each version of a dataset
abbrev pub AreServed : Set → Type 0
AreServed d = (vid : ℕ) → 1 ≤ vid → vid ≤ length d.versions → IsServed d.parts vid

abbrev pub AllServed : List Set → Type 0
AllServed [] = Unit {0}
AllServed (d ∷ sets) = AreServed d × AllServed sets

-- the partition that is joined is there
abbrev pub IsThere : Place → List (PartNumbers Extent) → Type 0
IsThere Own parts = Unit {0}
IsThere (Join id) parts = IsNumbered parts id

same_is : (n : ℕ) → (n == n) ≡ true
same_is n = (Decides-eqb n n).1 refl

has_more : (vids more : List ℕ) (vid : ℕ) → has vids vid ≡ true → has (vids ++ more) vid ≡ true
has_more [] more vid h = absurd cc
has_more (v ∷ vids) more vid h = by (v == vid) (has_more vids more vid) h
  where
    by : (b : Bool) → (has vids vid ≡ true → has (vids ++ more) vid ≡ true) → (b || has vids vid) ≡ true → (b || has (vids ++ more) vid) ≡ true
    by true rest is = refl
    by false rest is = rest is

has_last : (vids : List ℕ) (vid : ℕ) → has (vids ++ vid ∷ []) vid ≡ true
has_last [] vid = by (vid == vid) (same_is vid)
  where
    by : (b : Bool) → b ≡ true → (b || false) ≡ true
    by true is = refl
    by false is = is
has_last (v ∷ vids) vid = by (v == vid) (has_last vids vid)
  where
    by : (b : Bool) → has (vids ++ vid ∷ []) vid ≡ true → (b || has (vids ++ vid ∷ []) vid) ≡ true
    by true rest = refl
    by false rest = rest

served_more : (parts more : List (PartNumbers Extent)) (vid : ℕ) → IsServed parts vid → IsServed (parts ++ more) vid
served_more [] more vid is = absurd is
served_more (part ∷ parts) more vid (inl here) = inl here
served_more (part ∷ parts) more vid (inr later) = inr (served_more parts more vid later)

served_last : (parts : List (PartNumbers Extent)) (part : PartNumbers Extent) (vid : ℕ) → has part.versions vid ≡ true → IsServed (parts ++ part ∷ []) vid
served_last [] part vid is = inl is
served_last (x ∷ parts) part vid is = inr (served_last parts part vid is)

-- the partition that serves a version has a number
serving_there : (parts : List (PartNumbers Extent)) (vid : ℕ) → IsServed parts vid → IsNumbered parts (id_in (part_serving parts vid))
serving_there [] vid is = absurd is
serving_there (part ∷ parts) vid is = by (has part.versions vid) (serving_there parts vid) is
  where
    by : (b : Bool) → (IsServed parts vid → IsNumbered parts (id_in (part_serving parts vid))) → (b ≡ true) ⊎ IsServed parts vid → IsNumbered (part ∷ parts) (id_in (cond b (Some part) (part_serving parts vid)))
    by true rest h = inl (same_is part.id)
    by false rest (inl h) = absurd cc
    by false rest (inr later) = inr (rest later)

module _ (id vid added : ℕ) (segments : List Extent) where
  join_keeps : (parts : List (PartNumbers Extent)) (v : ℕ) → IsServed parts v → IsServed (join_at id vid added segments parts) v
  join_keeps [] v is = absurd is
  join_keeps (part ∷ parts) v is = by (part.id == id) (join_keeps parts v) is
    where
      by : (b : Bool) → (IsServed parts v → IsServed (join_at id vid added segments parts) v) → (has part.versions v ≡ true) ⊎ IsServed parts v
          → IsServed (if b then with_joined vid added segments part ∷ parts else part ∷ join_at id vid added segments parts) v
      by true rest (inl here) = inl (has_more part.versions (vid ∷ []) v here)
      by true rest (inr later) = inr later
      by false rest (inl here) = inl here
      by false rest (inr later) = inr (rest later)

  join_serves : (parts : List (PartNumbers Extent)) → IsNumbered parts id → IsServed (join_at id vid added segments parts) vid
  join_serves [] is = absurd is
  join_serves (part ∷ parts) is = by (part.id == id) (join_serves parts) is
    where
      by : (b : Bool) → (IsNumbered parts id → IsServed (join_at id vid added segments parts) vid) → (b ≡ true) ⊎ IsNumbered parts id → IsServed (if b then with_joined vid added segments part ∷ parts else part ∷ join_at id vid added segments parts) vid
      by true rest h = inl (has_last part.versions vid)
      by false rest (inl h) = absurd cc
      by false rest (inr later) = inr (rest later)

parts_keep : (place : Place) (next vid added : ℕ) (segments : List Extent) (parts : List (PartNumbers Extent)) (v : ℕ) → IsServed parts v → IsServed (parts_with place next vid added segments parts) v
parts_keep Own next vid added segments parts v is = served_more parts (own_part next vid added segments ∷ []) v is
parts_keep (Join id) next vid added segments parts v is = join_keeps id vid added segments parts v is

parts_serve : (place : Place) (next vid added : ℕ) (segments : List Extent) (parts : List (PartNumbers Extent)) → IsThere place parts → IsServed (parts_with place next vid added segments parts) vid
parts_serve Own next vid added segments parts there = served_last parts (own_part next vid added segments) vid (has_last [] vid)
parts_serve (Join id) next vid added segments parts there = join_serves id vid added segments parts there

-- ---- a commit that applies

there_by : (parts : List (PartNumbers Extent)) (place : Place) (b : Bool) (parent : ℕ) → is_place place (if b then Own else Join parent) ≡ true → IsNumbered parts parent → IsThere place parts
there_by parts Own b parent h n = tt
there_by parts (Join id) true parent h n = absurd cc
there_by parts (Join id) false parent h n = subst (λ (i : ℕ). IsNumbered parts i) (sym (eqb-true id parent h)) n

pub place_there : (vid : ℕ) (message : List ℕ) (parents : List (ℕ × ℕ)) (rows fresh : ℕ) (place : Place) (added : ℕ) (list segment : Extent) (d : Set)
    → commit_off vid message parents rows fresh place added list segment d ≡ None → AreServed d → IsThere place d.parts
place_there vid message parents rows fresh place added list segment d h served =
    let all = d.records + fresh in
    let facts = facts_of d (heaviest parents) in
    let six = off_unless (is_list rows list && is_segment added segment) off.Place in
    let five = option_or (off_unless (is_count d rows fresh added place) off.Count) six in
    let four = option_or (off_unless (is_place place (placed facts)) off.Placing) five in
    let some_rows = nat_le rows 1000000 && (nat_le fresh rows && (nat_le rows all && nat_le all (2 ^ 31))) in
    let three = option_or (off_unless some_rows off.Rows) four in
    let two = option_or (off_unless (are_parents d.versions rows parents) off.Parent) three in
    let one = option_or (off_unless (nat_le (length message) 1024) off.Message) two in
    let after_vid = off_none (vid == length d.versions + 1 && nat_le vid 65535) off.Vid one h in
    let after_message = off_none (nat_le (length message) 1024) off.Message two after_vid.1 in
    let named = off_none (are_parents d.versions rows parents) off.Parent three after_message.1 in
    let counted = off_none some_rows off.Rows four named.1 in
    let at = off_none (is_place place (placed facts)) off.Placing five counted.1 in
    let edges = are_distinct (map (λ edge. edge.0) parents) in
    let some = and_both (nat_le 1 (length parents)) (list_all (is_parent d.versions rows) parents && edges) named.0 in
    let each = and_both (list_all (is_parent d.versions rows) parents) edges some.1 in
    let heavy = heaviest-passes (is_parent d.versions rows) parents (leb-true 1 (length parents) some.0) each.0 in
    let edge = heaviest parents in
    let there = and_both (nat_le 1 edge.0 && nat_le edge.0 (length d.versions)) (nat_le edge.1 rows && nat_le edge.1 (rows_at d.versions edge.0)) heavy in
    let within = and_both (nat_le 1 edge.0) (nat_le edge.0 (length d.versions)) there.0 in
    there_by d.parts place (facts.unmoved || is_budgeted facts.threshold facts.weight facts.records facts.stored) facts.parent at.0
    (serving_there d.parts edge.0 (served edge.0 (leb-true 1 edge.0 within.0) (leb-true edge.0 (length d.versions) within.1)))

-- ---- what events keep

version_served : (v : VersionNumbers Extent) (place : Place) (added : ℕ) (segments : List Extent) (d : Set) → IsThere place d.parts → AreServed d → AreServed (with_version v place added segments d)
version_served v place added segments d there served vid some within =
    let size = length-append d.versions (v ∷ []) in
    elim (cases_lt (length d.versions) vid) [
      | inl last ↦
          let is : length d.versions + 1 ≡ vid = omega (arith, last, within, size) in
          subst (λ (n : ℕ). IsServed (parts_with place d.next_part (length d.versions + 1) added segments d.parts) n) is
          (parts_serve place d.next_part (length d.versions + 1) added segments d.parts there)
      | inr old ↦ parts_keep place d.next_part (length d.versions + 1) added segments d.parts vid (served vid some old)
    ]

-- a version that the target doesn't take stays where it is, and its partition with it
module _ (moving : List ℕ) (vid : ℕ) (other : has moving vid ≡ false) where
  has_left : (versions : List ℕ) → has versions vid ≡ true → has (filter (λ v. not (is_one moving v)) versions) vid ≡ true
  has_left versions there =
      is_listed (filter (λ v. not (is_one moving v)) versions) vid (omega (arith, stays_times moving versions vid other, listed versions vid there))

  some_left : (versions : List ℕ) → has versions vid ≡ true → not (length versions == 0) ≡ true
  some_left [] there = cc
  some_left (v ∷ versions) there = ap not (ne_eqb (length (v ∷ versions)) 0 (λ none. omega (arith, none)))

  left_served : (parts : List (PartNumbers Extent)) → IsServed parts vid → IsServed (left_parts moving parts) vid
  left_served [] is = absurd is
  left_served (part ∷ parts) is =
      by (not (is_empty (leaving moving part))) (λ here. some_left (leaving moving part).versions (has_left part.versions here)) (left_served parts) is
    where
      by : (b : Bool) → (has part.versions vid ≡ true → b ≡ true) → (IsServed parts vid → IsServed (left_parts moving parts) vid) → (has part.versions vid ≡ true) ⊎ IsServed parts vid
          → IsServed (if b then leaving moving part ∷ left_parts moving parts else left_parts moving parts) vid
      by true stays rest (inl here) = inl (has_left part.versions here)
      by true stays rest (inr later) = inr (rest later)
      by false stays rest (inl here) = absurd (clash (stays here))
        where
          clash : false ≡ true → ⊥
          clash e = cc
      by false stays rest (inr later) = rest later

flip_served : (d : Set) (plan : Option (PlanNumbers Extent)) → AreServed d → AreServed (flipped_by plan d)
flip_served d None served vid some within = served vid some within
flip_served d (Some plan) served vid some within =
    let moving : List ℕ = (current plan).versions in
    elim (cases_Bool (has moving vid)) [
      | inl taken ↦ served_last (left_parts moving d.parts) (target_part d.next_part d.parts plan) vid taken
      | inr other ↦ served_more (left_parts moving d.parts) (target_part d.next_part d.parts plan ∷ []) vid (left_served moving vid other d.parts (served vid some within))
    ]

pub found_served : (cvd : ℕ) (sets : List Set) (d : Set) → find (numbered cvd) sets ≡ Some d → AllServed sets → AreServed d
found_served cvd [] d is all = absurd cc
found_served cvd (x ∷ sets) d is all = by (numbered cvd x) (λ later. found_served cvd sets d later all.1) is
  where
    by : (b : Bool) → (find (numbered cvd) sets ≡ Some d → AreServed d) → cond b (Some x) (find (numbered cvd) sets) ≡ Some d → AreServed d
    by true rest same = let e : x ≡ d = cc in subst AreServed e all.0
    by false rest later = rest later

all_append : (sets : List Set) (d : Set) → AllServed sets → AreServed d → AllServed (sets ++ d ∷ [])
all_append [] d all is = (is, tt)
all_append (x ∷ sets) d all is = (all.0, all_append sets d all.1 is)

all_filter : (test : Set → Bool) (sets : List Set) → AllServed sets → AllServed (filter test sets)
all_filter test [] all = tt
all_filter test (x ∷ sets) all = by (test x) (all_filter test sets all.1)
  where
    by : (b : Bool) → AllServed (filter test sets) → AllServed (if b then x ∷ filter test sets else filter test sets)
    by true rest = (all.0, rest)
    by false rest = rest

all_change : (cvd : ℕ) (f : Set → Set) (d : Set) (sets : List Set) → find (numbered cvd) sets ≡ Some d → AreServed (f d) → AllServed sets → AllServed (change cvd f sets)
all_change cvd f d [] is new all = tt
all_change cvd f d (x ∷ sets) is new all = by (numbered cvd x) (λ later. all_change cvd f d sets later new all.1) is
  where
    by : (b : Bool) → (find (numbered cvd) sets ≡ Some d → AllServed (change cvd f sets)) → cond b (Some x) (find (numbered cvd) sets) ≡ Some d → AllServed (if b then f x ∷ sets else x ∷ change cvd f sets)
    by true rest same = let e : d ≡ x = cc in (subst (λ (y : Set). AreServed (f y)) e new, all.1)
    by false rest later = (all.0, rest later)

-- the dataset that a commit names
pub live_found : (test : Set → Option Field) (found : Option Set) → of_live test found ≡ None → (d : Set) × (found ≡ Some d) × (test d ≡ None)
live_found test None h = absurd cc
live_found test (Some d) h = (d, refl, h)

-- where a store takes columns, what comes behind the test of its format
pub behind_format : (format : ℕ) (rest : Option Field) → option_or (format_off format) rest ≡ None → rest ≡ None
behind_format format rest h = (off_none (format == 2) off.Number rest h).1

-- a Wide that applies would apply as a Commit
pub wide_commits : {L S : Type 0} (vid : ℕ) (message : List ℕ) (columns : List Column) (parents : List (ℕ × ℕ)) (rows fresh : ℕ) (place : Place) (added : ℕ) (list segment : Extent)
    (d : SetNumbers L S) → wide_off vid message columns parents rows fresh place added list segment d ≡ None
    → commit_off vid message parents rows fresh place added list segment d ≡ None
wide_commits vid message columns parents rows fresh place added list segment d h =
    by (vid_off vid d) (message_off message) (columns_off columns d) (version_off parents rows fresh place added list segment d) h
  where
    by : (a b c rest : Option Field) → option_or a (option_or b (option_or c rest)) ≡ None → option_or a (option_or b rest) ≡ None
    by None None None rest e = e
    by None None (Some field) rest e = absurd cc
    by None (Some field) c rest e = e
    by (Some field) b c rest e = e

-- and where the columns are accepted, the other way round
pub commit_widens : {L S : Type 0} (vid : ℕ) (message : List ℕ) (columns : List Column) (parents : List (ℕ × ℕ)) (rows fresh : ℕ) (place : Place) (added : ℕ) (list segment : Extent)
    (d : SetNumbers L S) → commit_off vid message parents rows fresh place added list segment d ≡ None → columns_off columns d ≡ None
    → wide_off vid message columns parents rows fresh place added list segment d ≡ None
commit_widens vid message columns parents rows fresh place added list segment d h accepted =
    by (vid_off vid d) (message_off message) (columns_off columns d) (version_off parents rows fresh place added list segment d) h accepted
  where
    by : (a b c rest : Option Field) → option_or a (option_or b rest) ≡ None → c ≡ None → option_or a (option_or b (option_or c rest)) ≡ None
    by None None None rest e accepted = e
    by None None (Some field) rest e accepted = absurd cc
    by None (Some field) c rest e accepted = e
    by (Some field) b c rest e accepted = e

pub served_more_by : (format : ℕ) (e : raw.Event) (n : Numbers Extent Extent) → first_off format e n ≡ None → AllServed n.sets → AllServed (applied (event_in e) n).sets
served_more_by format (says.Init name schema rows list segment) n h all =
    all_append n.sets _ all
    (λ vid some within.
    let one : 1 ≡ vid = omega (arith, some, within) in
    subst (λ (v : ℕ). IsServed (own_part 1 1 rows (extents_of segment) ∷ []) v) one (inl (has_last [] 1)))
served_more_by format (says.Commit cvd vid message parents rows fresh place added list segment) n h all =
    let found = live_found (commit_off vid message parents rows fresh (place_in place) added list segment) (set_numbered cvd n) h in
    let d = found.0 in
    let served = found_served cvd n.sets d found.1 all in
    all_change cvd (with_version (version_of parents message rows fresh list) (place_in place) added (extents_of segment)) d n.sets found.1
    (version_served (version_of parents message rows fresh list) (place_in place) added (extents_of segment) d
    (place_there vid message parents rows fresh (place_in place) added list segment d found.2 served) served)
    all
served_more_by format (says.Drop cvd) n h all = all_filter (λ d. not (numbered cvd d)) n.sets all
served_more_by format (says.Plan cvd p q targets) n h all =
    let found = live_found (plan_off p q targets) (set_numbered cvd n) h in
    all_change cvd (planned p q targets) found.0 n.sets found.1 (found_served cvd n.sets found.0 found.1 all) all
served_more_by format (says.Copy cvd count segment) n h all =
    let found = live_found (λ d. of_running (copy_off count segment) d.plan) (set_numbered cvd n) h in
    all_change cvd (copied_more count (extents_of segment)) found.0 n.sets found.1 (found_served cvd n.sets found.0 found.1 all) all
served_more_by format (says.Flip cvd) n h all =
    let found = live_found (λ d. of_running flip_off d.plan) (set_numbered cvd n) h in
    all_change cvd flipped found.0 n.sets found.1 (flip_served found.0 found.0.plan (found_served cvd n.sets found.0 found.1 all)) all
served_more_by format (says.Base next) n h all = absurd cc
served_more_by format (says.Whole set) n h all = absurd cc
served_more_by format (says.Wide cvd vid message columns parents rows fresh place added list segment) n h all =
    let test = wide_off vid message columns parents rows fresh (place_in place) added list segment in
    let found = live_found test (set_numbered cvd n) (behind_format format (of_live test (set_numbered cvd n)) h) in
    let d = found.0 in
    let served = found_served cvd n.sets d found.1 all in
    all_change cvd (λ s. with_version (version_of parents message rows fresh list) (place_in place) added (extents_of segment) (with_columns columns s)) d n.sets found.1
    (version_served (version_of parents message rows fresh list) (place_in place) added (extents_of segment) (with_columns columns d)
    (place_there vid message parents rows fresh (place_in place) added list segment d
    (wide_commits vid message columns parents rows fresh (place_in place) added list segment d found.2) served) served)
    all

-- each version of a dataset that a Whole says is in one of its partitions
one_serves : (parts : List (PartNumbers Extent)) (vid : ℕ) → parts_serving parts vid ≡ 1 → IsServed parts vid
one_serves [] vid is = absurd (omega (arith, is))
one_serves (part ∷ parts) vid is =
    by (is_one part.versions vid) refl (one_serves parts vid) (sym (sum_by-cons (λ (p : PartNumbers Extent). if is_one p.versions vid then 1 else 0) part parts) ∙ is)
  where
    by : (b : Bool) → is_one part.versions vid ≡ b → (parts_serving parts vid ≡ 1 → IsServed parts vid) → (if b then 1 else 0) + parts_serving parts vid ≡ 1 → IsServed (part ∷ parts) vid
    by true here rest counts = inl here
    by false none rest counts = inr (rest (omega (arith, counts)))

counted_all : (test : ℕ → Bool) (first count : ℕ) → list_all test (counted first count) ≡ true → (vid : ℕ) → first ≤ vid → vid < first + count → test vid ≡ true
counted_all test first zero all vid low high = absurd (omega (arith, low, high))
counted_all test first (suc count) all vid low high =
    let both = and_both (test first) (list_all test (counted (first + 1) count)) all in
    elim (cases_lt first vid) [
      | inl less ↦ counted_all test (first + 1) count both.1 vid (omega (arith, less)) (omega (arith, high))
      | inr more ↦ let same : first ≡ vid = omega (arith, low, more) in subst (λ (v : ℕ). test v ≡ true) same both.0
    ]

-- numbers are left for the targets to come and for a partition of each later version
abbrev numbers_left : Set → Bool
numbers_left d = nat_lt (d.next_part + length (targets_left d.plan) + (65535 - length d.versions)) (2 ^ 32)

whole_served : (said : Whole) (n : Numbers Extent Extent) → whole_off said (whole_in said) n ≡ None → AreServed (whole_in said)
whole_served said n applies vid some within =
    let d : Set = whole_in said in
    let parts : are_parts d ≡ true = (passes said n applies).parts in
    let numbers : Bool = ascend_from 1 (map (λ part. part.id) d.parts) && list_all (λ part. nat_lt part.id d.next_part) d.parts in
    let each : list_all (λ v. parts_serving d.parts v == 1) (counted 1 (length d.versions)) ≡ true =
    (and_both (list_all (λ v. parts_serving d.parts v == 1) (counted 1 (length d.versions))) (list_all (is_part (length d.versions) d.records) d.parts)
    (and_both (list_all (λ v. parts_serving d.parts v == 1) (counted 1 (length d.versions)) && list_all (is_part (length d.versions) d.records) d.parts) (numbers_left d) (and_both numbers ((list_all (λ v. parts_serving d.parts v == 1) (counted 1 (length d.versions)) && list_all (is_part (length d.versions) d.records) d.parts) && numbers_left d) parts).1).0).0 in
    one_serves d.parts vid (eqb-true (parts_serving d.parts vid) 1 (counted_all (λ v. parts_serving d.parts v == 1) 1 (length d.versions) each vid some (omega (arith, within))))

next_served : (stage : Stage) (e : raw.Event) (n : Numbers Extent Extent) → off_at stage e n ≡ None → AllServed n.sets → AllServed (applied (event_in e) n).sets
next_served stage e n applies all =
    by_next (λ x. AllServed (applied (event_in x) n).sets) stage e n applies (λ next. tt)
    (λ said is. all_append n.sets (whole_in said) all (whole_served said n is)) (λ is. served_more_by stage.format e n is all)

pub all_served : (format : ℕ) (es : List raw.Event) → AllFollow (start_of format) es nothing_yet → AllServed (numbers_in es).sets
all_served format es follow = along (λ n. AllServed n.sets) next_served (start_of format) es nothing_yet follow tt

-- ---- one event more

replay_more : (es : List raw.Event) (e : raw.Event) (n : Numbers Extent Extent) → replayed (map event_in (es ++ e ∷ [])) n ≡ applied (event_in e) (replayed (map event_in es) n)
replay_more [] e n = refl
replay_more (x ∷ es) e n = replay_more es e (applied (event_in x) n)

pub all_follow : (format : ℕ) (es : List raw.Event) (e : raw.Event) → AllFollow (start_of format) es nothing_yet → first_off format e (numbers_in es) ≡ None
    → AllFollow (start_of format) (es ++ e ∷ []) nothing_yet
all_follow format es e follow is = follow_more (start_of format) es e nothing_yet follow is

pub numbers_more : (es : List raw.Event) (e : raw.Event) → numbers_in (es ++ e ∷ []) ≡ applied (event_in e) (numbers_in es)
numbers_more es e = replay_more es e nothing_yet
