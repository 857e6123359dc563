-- Each move keeps what a plan makes of partitions, their order by number, and parents before their versions.
use Rattle.std.proofs.Common.{◌≡◌, ◌≤◌, ◌<◌, ℕ, ◌+◌, Bool, true, false, ◌==◌, List, [], ◌∷◌, ◌++◌, length, map, filter, refl, sym, ◌∙◌, ap, subst, inl, inr, arith, append-nil}
use Rattle.std.specs.Prelude.{not, nat_lt, if◌then◌else◌, Option, Some, None}
use Rattle.std.proofs.lemmas.List.{length-append}
use Rattle.std.proofs.lemmas.Bool.{eqb-true}
use Rattle.ov_place.specs.declared.place_facts.Place.{Place}
use Rattle.ov_place.specs.declared.place_facts.Place.TheVariants.{Own, Join}
use Rattle.ov_value.specs.declared.column.Column.{Column}
use Rattle.ov_value.specs.declared.schema_err.SchemaErr.{SchemaErr}
use Rattle.ov_value.specs.declared.schema_err.SchemaErr.TheVariants.{NoColumns}
use Rattle.ov_value.specs.Making.{answer_of, column_refusal}
use Rattle.ov_value.specs.Rows.{key_cmp}
use Rattle.ov_value.specs.Shapes.{Shape}
use Rattle.ov_model.specs.Act.{Session}
use Rattle.ov_model.specs.Book.{Row, Version, extended}
use Rattle.ov_model.specs.Course.{Space, course, world_at}
use Rattle.ov_model.specs.Forms.{Form}
use Rattle.ov_model.specs.Holding.{IsHeld, AreHeld}
use Rattle.ov_model.specs.Lists.{IsBelow, IsIn, Rises}
use Rattle.ov_model.specs.Moves.{Move, Init, Commit, BeginPlan, Copy, Flip, Drop, Checkpoint, accepted_or, wide_schema, moved, change, numbered, committed, with_version, version_of, wide, wide_part, wide_version, placed_at, parts_with, next_with, with_joined, own_part, new_set}
use Rattle.ov_model.specs.Placed.{PlanIs, IsPlaced, ArePlaced, AreThere, HasParents, AllHaveParents}
use Rattle.ov_model.specs.Plans.{parts_at, targets_of, planned, current, copied_for, copied_more, leaving, left_parts, target_part, next_target, flipped_by, flipped}
use Rattle.ov_model.specs.Records.{AllRise, Rec, ordered_records}
use Rattle.ov_model.specs.World.{Part, Plan, Dataset, World}
use Rattle.law_partitions.specs.Courses.{IsDue, HasPartitions}
use Rattle.law_partitions.specs.OldOrNew.{Runs, IsOldOrNew, AreOldOrNew}
use Rattle.law_partitions.specs.PlanEnds.{listed_by, HasAllVersions, HasAllIn, PlanHasAll, IsSplitting, Splits, AreByNumber, AreParents, HaveParents, IsPlanned, ArePlanned, IsSplit}
use Rattle.law_partitions.proofs.CourseMoves.{course_due, due_at, wide_long}
use Rattle.ov_model.proofs.Widening.{cmp_wide}
use Rattle.law_partitions.proofs.OldMoves.{flip_old, planned_waits, wide_placed}
use Rattle.law_partitions.proofs.OldParts.{targets_past}
use Rattle.law_partitions.proofs.OldTight.{idle_tight, old_at, old_in, Both, both_kept}
use Rattle.law_partitions.proofs.PlanFlips.{next_splits, last_split}
use Rattle.law_partitions.proofs.PlanParts.{parts_times, targets_times, vid_once}
use Rattle.law_partitions.specs.Pieces.{AllRiseWith}
use Rattle.law_partitions.specs.Sound.{AllNameVersions}

-- ---- by number

number_low : (lower low high : ℕ) (parts : List Part) → lower ≤ low → AreByNumber low high parts → AreByNumber lower high parts
number_low lower low high [] le are = omega (arith, le, are)
number_low lower low high (part ∷ parts) le are = (omega (arith, le, are.0), are.1)

number_append : (low high : ℕ) (parts : List Part) (part : Part) → part.id ≡ high → AreByNumber low high parts → AreByNumber low (high + 1) (parts ++ part ∷ [])
number_append low high [] part last are = (omega (arith, last, are), omega (arith, last))
number_append low high (x ∷ parts) part last are = (are.0, number_append (x.id + 1) high parts part last are.1)

number_map : (f : Part → Part) (low high : ℕ) (parts : List Part) → ((part : Part) → (f part).id ≡ part.id) → AreByNumber low high parts → AreByNumber low high (map f parts)
number_map f low high [] same are = are
number_map f low high (part ∷ parts) same are = (
  omega (arith, same part, are.0),
  subst (λ n. AreByNumber (n + 1) high (map f parts)) (sym (same part)) (number_map f (part.id + 1) high parts same are.1),
)

number_if : (t : Bool) (low high : ℕ) (part : Part) (rest : List Part) → low ≤ part.id → AreByNumber (part.id + 1) high rest → AreByNumber low high (if t then part ∷ rest else rest)
number_if true low high part rest le are = (le, are)
number_if false low high part rest le are = number_low low (part.id + 1) high rest (omega (arith, le)) are

number_filter : (p : Part → Bool) (low high : ℕ) (parts : List Part) → AreByNumber low high parts → AreByNumber low high (filter p parts)
number_filter p low high [] are = are
number_filter p low high (part ∷ parts) are = number_if (p part) low high part (filter p parts) are.0 (number_filter p (part.id + 1) high parts are.1)

same_id : (t : Bool) (part : Part) (next : ℕ) (rs : List Rec) → (if t then with_joined next rs part else part).id ≡ part.id
same_id true part next rs = refl
same_id false part next rs = refl

number_placed : (place : Place) (next vid : ℕ) (rs : List Rec) (parts : List Part) → AreByNumber 1 next parts → AreByNumber 1 (next_with place next) (parts_with place next vid rs parts)
number_placed Own next vid rs parts are = number_append 1 next parts (own_part next vid rs) refl are
number_placed (Join id) next vid rs parts are = number_map (λ part. if part.id == id then with_joined vid rs part else part) 1 next parts (λ part. same_id (part.id == id) part vid rs) are

-- ---- parents

parents_append : (before : ℕ) (versions : List Version) (v : Version) → HaveParents before versions → AreParents (before + length versions) v.parents → HaveParents before (versions ++ v ∷ [])
parents_append before [] v have are = (subst (λ n. AreParents n v.parents) none are, tt)
  where
    none : before + 0 ≡ before
    none = omega arith
parents_append before (x ∷ versions) v have are = (have.0, parents_append (before + 1) versions v have.1 (subst (λ n. AreParents n v.parents) one are))
  where
    one : before + length (x ∷ versions) ≡ before + 1 + length versions
    one = omega arith

wide_parents : (n before : ℕ) (versions : List Version) → HaveParents before versions → HaveParents before (map (wide_version n) versions)
wide_parents n before [] have = tt
wide_parents n before (v ∷ versions) have = (have.0, wide_parents n (before + 1) versions have.1)

-- ---- rows

below_wide : (schema wider : Shape) (n : ℕ) (row : Row) (rows : List Row) → wider.key ≡ schema.key → IsBelow (key_cmp schema) row rows → IsBelow (key_cmp wider) (extended n row) (map (extended n) rows)
below_wide schema wider n row [] same below = tt
below_wide schema wider n row (x ∷ rows) same below = (cmp_wide schema wider n row x same ∙ below.0, below_wide schema wider n row rows same below.1)

rises_wide : (schema wider : Shape) (n : ℕ) (rows : List Row) → wider.key ≡ schema.key → Rises (key_cmp schema) rows → Rises (key_cmp wider) (map (extended n) rows)
rises_wide schema wider n [] same rise = tt
rises_wide schema wider n (row ∷ rows) same rise = (below_wide schema wider n row rows same rise.0, rises_wide schema wider n rows same rise.1)

all_rise_wide : (schema wider : Shape) (n : ℕ) (versions : List Version) → wider.key ≡ schema.key → AllRise schema versions → AllRise wider (map (wide_version n) versions)
all_rise_wide schema wider n [] same rise = tt
all_rise_wide schema wider n (v ∷ versions) same rise = (rises_wide schema wider n v.rows same rise.0, all_rise_wide schema wider n versions same rise.1)

rise_append : (schema : Shape) (versions : List Version) (v : Version) → AllRise schema versions → Rises (key_cmp schema) v.rows → AllRise schema (versions ++ v ∷ [])
rise_append schema [] v rise next = (next, tt)
rise_append schema (x ∷ versions) v rise next = (rise.0, rise_append schema versions v rise.1 next)

-- added columns leave the key as it is
same_key_by : (schema wider : Shape) (refusal : Option SchemaErr) → wider.key ≡ schema.key → (accepted_or schema (answer_of refusal wider)).key ≡ schema.key
same_key_by schema wider None same = same
same_key_by schema wider (Some refusal) same = refl

same_key : (schema : Shape) (added : List Column) → (wide_schema schema added).key ≡ schema.key
same_key schema added =
    same_key_by schema (record { columns = schema.columns ++ added; key = schema.key })
    (if length added == 0 then Some NoColumns else column_refusal (schema.columns ++ added)) refl

wide_rows : (added : List Column) (d : Dataset) → AllRise d.cvd.schema d.cvd.versions → AllRise (wide added d).cvd.schema (wide added d).cvd.versions
wide_rows [] d rise = rise
wide_rows (column ∷ added) d rise =
    all_rise_wide d.cvd.schema (wide_schema d.cvd.schema (column ∷ added)) (length (column ∷ added)) d.cvd.versions (same_key d.cvd.schema (column ∷ added)) rise

-- ---- a commit

-- a plan hasn't a version that came later
past_splits : (d : Dataset) (count : ℕ) (plan : Option Plan) → PlanIs count plan → count < length d.cvd.versions → Splits d plan
past_splits d count None are past = tt
past_splits d count (Some plan) are past = λ all.
    absurd (omega (arith, all (length d.cvd.versions) (omega (arith, past)) (omega arith), targets_past count plan.targets (length d.cvd.versions) are past))

wide_numbers : (added : List Column) (d : Dataset) → AreByNumber 1 d.next_part d.parts → AreByNumber 1 (wide added d).next_part (wide added d).parts
wide_numbers [] d are = are
wide_numbers (column ∷ added) d are = number_map (wide_part (length (column ∷ added))) 1 d.next_part d.parts (λ part. refl) are

wide_have : (added : List Column) (d : Dataset) → HaveParents 0 d.cvd.versions → HaveParents 0 (wide added d).cvd.versions
wide_have [] d have = have
wide_have (column ∷ added) d have = wide_parents (length (column ∷ added)) 0 d.cvd.versions have

commit_planned : (parents message : List ℕ) (added : List Column) (rows : List Row) (d : Dataset) → IsPlaced d → IsOldOrNew d → HasParents parents d → Rises (key_cmp (wide added d).cvd.schema) rows → IsPlanned d
    → IsPlanned (committed parents message added rows d)
commit_planned parents message added rows d placed old has rise is =
    let e : Dataset = wide added d
    in let v : Version = version_of parents message rows
    in let count : ℕ = length e.cvd.versions
    in let same : count ≡ length d.cvd.versions = wide_long added d
    in let are : AreParents count parents = record {
      first = λ none. absurd (omega (arith, none, same, old.begun));
      later = λ some. has.0;
      there = subst (λ n. AreThere n parents) (sym same) has.1;
    }
    in let behind : 0 + count ≡ count = omega arith
    in record {
      splits = past_splits (with_version v e) count e.plan (wide_placed added d placed).targets (omega (arith, length-append e.cvd.versions (v ∷ [])));
      by_number = number_placed (placed_at e v) e.next_part (count + 1) (ordered_records e.cvd.versions v) e.parts (wide_numbers added d is.by_number);
      parents = parents_append 0 e.cvd.versions v (wide_have added d is.parents) (subst (λ n. AreParents n parents) (sym behind) are);
      rows = rise_append e.cvd.schema e.cvd.versions v (wide_rows added d is.rows) rise;
    }

-- ---- a plan begins

listed_targets : (d : Dataset) (vss : List (List ℕ)) → listed_by (targets_of d vss) ≡ vss
listed_targets d [] = refl
listed_targets d (vs ∷ vss) = ap (λ l. vs ∷ l) (listed_targets d vss)

plan_planned : (p q : ℕ) (d : Dataset) → 1 ≤ p → p ≤ q → IsHeld d → IsOldOrNew d → IsPlanned d → IsPlanned (planned p q d)
plan_planned p q d from to holds old is = record {
  splits = λ all. record {
    from_one = from;
    up_to_q = to;
    targets = listed_targets d (parts_at d p q);
    flipped = record {
      olds = d.parts;
      news = [];
      are = sym (append-nil d.parts);
      old = planned_waits p q d holds old;
      new = λ part none. absurd none;
      in_order = refl;
    };
  };
  by_number = is.by_number;
  parents = is.parents;
  rows = is.rows;
}

-- ---- a copy

copied_splits : (d : Dataset) (plan : Option Plan) → Splits d plan → Splits (record d { plan = copied_for d plan }) (copied_for d plan)
copied_splits d None splits = tt
copied_splits d (Some plan) splits = λ all.
    let before : IsSplitting d plan = splits all
    in record {
      from_one = before.from_one;
      up_to_q = before.up_to_q;
      targets = before.targets;
      flipped = record {
        olds = before.flipped.olds;
        news = before.flipped.news;
        are = before.flipped.are;
        old = before.flipped.old;
        new = λ part there. record { moved = (before.flipped.new part there).moved; tight = (before.flipped.new part there).tight };
        in_order = before.flipped.in_order;
      };
    }

copy_planned : (d : Dataset) → IsPlanned d → IsPlanned (copied_more d)
copy_planned d is = record { splits = copied_splits d d.plan is.splits; by_number = is.by_number; parents = is.parents; rows = is.rows }

-- ---- a flip

flip_planned : (d : Dataset) (plan : Option Plan) → d.plan ≡ plan → IsOldOrNew d → IsPlanned d → IsPlanned (flipped_by d plan)
flip_planned d None e old is = is
flip_planned d (Some plan) e old is = record {
  splits = next_splits d plan (subst Runs e old.runs) old.some (subst (Splits d) e is.splits);
  by_number =
      number_append 1 d.next_part (left_parts (current plan).versions d.parts) (target_part d plan) refl
      (number_filter (λ part. not (length part.versions == 0)) 1 d.next_part (map (leaving (current plan).versions) d.parts)
      (number_map (leaving (current plan).versions) 1 d.next_part d.parts (λ part. refl) is.by_number));
  parents = is.parents;
  rows = is.rows;
}

-- ---- Worlds

new_planned : (number : ℕ) (name : List ℕ) (schema : Shape) (rows : List Row) → Rises (key_cmp schema) rows → IsPlanned (new_set number name schema rows)
new_planned number name schema rows rise = record {
  splits = tt;
  by_number = (omega arith, omega arith);
  parents = (record { first = λ none. refl; later = λ some. absurd (omega (arith, some)); there = tt }, tt);
  rows = (rise, tt);
}

planned-append : (a b : List Dataset) → ArePlanned a → ArePlanned b → ArePlanned (a ++ b)
planned-append [] b are more = more
planned-append (d ∷ a) b are more = (are.0, planned-append a b are.1 more)

planned_if : (t : Bool) (d : Dataset) (sets : List Dataset) → IsPlanned d → ArePlanned sets → ArePlanned (if t then d ∷ sets else sets)
planned_if true d sets is are = (is, are)
planned_if false d sets is are = are

planned-filter : (test : Dataset → Bool) (sets : List Dataset) → ArePlanned sets → ArePlanned (filter test sets)
planned-filter test [] are = tt
planned-filter test (d ∷ sets) are = planned_if (test d) d (filter test sets) are.0 (planned-filter test sets are.1)

change_if : (t : Bool) (f : Dataset → Dataset) (d : Dataset) → (t ≡ true → IsPlanned (f d)) → IsPlanned d → IsPlanned (if t then f d else d)
change_if true f d more is = more refl
change_if false f d more is = is

planned_changed : (cvd : ℕ) (f : Dataset → Dataset) (sets : List Dataset) → ((d : Dataset) → IsOldOrNew d → IsPlanned d → IsPlanned (f d)) → AreOldOrNew sets → ArePlanned sets → ArePlanned (change cvd f sets)
planned_changed cvd f [] more old are = tt
planned_changed cvd f (d ∷ sets) more old are = (change_if (numbered cvd d) f d (λ t. more d old.0 are.0) are.0, planned_changed cvd f sets more old.1 are.1)

planned_committed : (cvd : ℕ) (parents message : List ℕ) (added : List Column) (rows : List Row) (sets : List Dataset) → ArePlaced sets → AreOldOrNew sets → AllHaveParents cvd parents sets → AllRiseWith cvd added rows sets → ArePlanned sets
    → ArePlanned (change cvd (committed parents message added rows) sets)
planned_committed cvd parents message added rows [] placed old has rise are = tt
planned_committed cvd parents message added rows (d ∷ sets) placed old has rise are = (
  change_if (numbered cvd d) (committed parents message added rows) d
      (λ t. commit_planned parents message added rows d placed.0 old.0 (has.0 (eqb-true d.cvd.number cvd t)) (rise.0 (eqb-true d.cvd.number cvd t)) are.0) are.0,
  planned_committed cvd parents message added rows sets placed.1 old.1 has.1 rise.1 are.1,
)

plans_begun : (cvd p q : ℕ) (sets : List Dataset) → 1 ≤ p → p ≤ q → AreHeld sets → AreOldOrNew sets → ArePlanned sets → ArePlanned (change cvd (planned p q) sets)
plans_begun cvd p q [] from to holds old are = tt
plans_begun cvd p q (d ∷ sets) from to holds old are = (
  change_if (numbered cvd d) (planned p q) d (λ t. plan_planned p q d from to holds.0 old.0 are.0) are.0,
  plans_begun cvd p q sets from to holds.1 old.1 are.1,
)

pub moved_planned : (m : Move) (w : World) → IsDue m w → HasPartitions w → AreOldOrNew w.sets → ArePlanned w.sets → ArePlanned (moved m w).sets
moved_planned (Init name schema rows) w due has old are = planned-append w.sets (new_set w.next name schema rows ∷ []) are (new_planned w.next name schema rows due.may.rows, tt)
moved_planned (Commit cvd parents message added rows) w due has old are = planned_committed cvd parents message added rows w.sets has.placed old due.may.parents due.may.rows are
moved_planned (BeginPlan cvd p q) w due has old are = plans_begun cvd p q w.sets due.begins.0.0 due.begins.0.1 has.held old are
moved_planned (Copy cvd) w due has old are = planned_changed cvd copied_more w.sets (λ d was is. copy_planned d is) old are
moved_planned (Flip cvd) w due has old are = planned_changed cvd flipped w.sets (λ d was is. flip_planned d d.plan refl was is) old are
moved_planned (Drop cvd) w due has old are = planned-filter (λ d. not (numbered cvd d)) w.sets are
moved_planned Checkpoint w due has old are = are

abbrev pub AllKept : World → Type 0
AllKept w = Both w × ArePlanned w.sets

pub all_kept : (m : Move) (w : World) → IsDue m w → AllKept w → AllKept (moved m w)
all_kept m w due has = (both_kept m w due has.0, moved_planned m w due has.0.0 has.0.1 has.1)

pub planned_at : (forms : List Form) (n : ℕ) (w : World) (s : Session) (lines : List (List ℕ)) (space : Space) → AllNameVersions forms lines → HasPartitions w → AreOldOrNew w.sets → ArePlanned w.sets → (k : ℕ)
    → ArePlanned (world_at w (course forms n w s lines space).items k).sets
planned_at forms n w s lines space names has old are k =
    (due_at AllKept all_kept w (course forms n w s lines space).items k (course_due forms n w s lines space names has.begun) ((has, old), are)).1

-- ---- a plan that no commit came to, and its last flip

pub begun_has_all : (p q : ℕ) (d : Dataset) → PlanHasAll (planned p q d)
begun_has_all p q d = λ vid from to.
    omega (arith, targets_times d (parts_at d p q) vid, parts_times d p q vid, vid_once (length d.cvd.versions) vid from to)

copied_has_by : (d : Dataset) (plan : Option Plan) → HasAllIn d plan → HasAllIn (record d { plan = copied_for d plan }) (copied_for d plan)
copied_has_by d None all = tt
copied_has_by d (Some plan) all = all

pub copied_has_all : (d : Dataset) → PlanHasAll d → PlanHasAll (copied_more d)
copied_has_all d all = copied_has_by d d.plan all

next_has_if : (t : Bool) (d e : Dataset) (plan : Plan) → e.cvd ≡ d.cvd → HasAllVersions d plan → HasAllIn e (if t then Some (record plan { at = plan.at + 1; copied = [] }) else None)
next_has_if true d e plan same all = λ vid from to. all vid from (subst (λ cvd. vid ≤ length cvd.versions) same to)
next_has_if false d e plan same all = tt

flipped_has_by : (d : Dataset) (plan : Option Plan) → d.plan ≡ plan → HasAllIn d plan → PlanHasAll (flipped_by d plan)
flipped_has_by d None e all = subst (HasAllIn d) (sym e) tt
flipped_has_by d (Some plan) e all = next_has_if (nat_lt (plan.at + 1) (length plan.targets)) d (flipped_by d (Some plan)) plan refl all

pub flipped_has_all : (d : Dataset) → PlanHasAll d → PlanHasAll (flipped d)
flipped_has_all d all = flipped_has_by d d.plan refl all

-- the flip of a plan that is known
finished_by : (d : Dataset) (plan : Plan) → d.plan ≡ Some plan → IsOldOrNew d → IsPlanned d → HasAllVersions d plan → next_target plan ≡ None → IsSplit (flipped_by d (Some plan)) plan.p plan.q
finished_by d plan e old planned all ends =
    let after : IsOldOrNew (flipped_by d (Some plan)) = flip_old d (Some plan) e old
    in let splits : IsSplitting d plan = subst (Splits d) e planned.splits all
    in record {
      from_one = splits.from_one;
      up_to_q = splits.up_to_q;
      by_number = (flip_planned d (Some plan) e old planned).by_number;
      are = last_split d plan (subst Runs e old.runs) old.some splits ends after.some;
      tight = idle_tight (flipped_by d (Some plan)) after ends;
    }

pub finished : (d : Dataset) (plan : Plan) → IsOldOrNew d → IsPlanned d → d.plan ≡ Some plan → HasAllVersions d plan → (flipped d).plan ≡ None → IsSplit (flipped d) plan.p plan.q
finished d plan old planned e all ends =
    subst (λ found. IsSplit (flipped_by d found) plan.p plan.q) (sym e)
    (finished_by d plan e old planned all (subst (λ found. (flipped_by d found).plan ≡ None) e ends))

pub planned_in : (sets : List Dataset) (d : Dataset) → ArePlanned sets → IsIn sets d → IsPlanned d
planned_in [] d are is = absurd is
planned_in (x ∷ sets) d are (inl same) = subst IsPlanned (sym same) are.0
planned_in (x ∷ sets) d are (inr later) = planned_in sets d are.1 later

pub finished_at : (forms : List Form) (n : ℕ) (w : World) (s : Session) (lines : List (List ℕ)) (space : Space) → AllNameVersions forms lines → HasPartitions w → AreOldOrNew w.sets → ArePlanned w.sets
    → (k : ℕ) (d : Dataset) (plan : Plan) → IsIn (world_at w (course forms n w s lines space).items k).sets d → d.plan ≡ Some plan → HasAllVersions d plan → (flipped d).plan ≡ None
    → IsSplit (flipped d) plan.p plan.q
finished_at forms n w s lines space names has old are k d plan there e all ends =
    finished d plan
    (old_in (world_at w (course forms n w s lines space).items k).sets d (old_at forms n w s lines space names has old k) there)
    (planned_in (world_at w (course forms n w s lines space).items k).sets d (planned_at forms n w s lines space names has old are k) there)
    e all ends
