-- Each move keeps partitions old or new.
use Rattle.std.proofs.Common.{◌≡◌, ◌≤◌, ◌<◌, ℕ, suc, ◌+◌, Bool, true, false, ◌==◌, List, [], ◌∷◌, ◌++◌, length, map, filter, refl, sym, ◌∙◌, ap, subst, inl, inr, arith}
use Rattle.std.specs.Prelude.{codes, not, ◌||◌, nat_lt, if◌then◌else◌, Option, Some, None}
use Rattle.std.proofs.lemmas.List.{length-append, length-map}
use Rattle.std.proofs.lemmas.Bool.{cases_Bool, eqb-true, ltb-true, ltb-false}
use Rattle.ov_graph.specs.Trees.{vids}
use Rattle.ov_place.specs.declared.place_facts.Place.{Place}
use Rattle.ov_place.specs.declared.place_facts.Place.TheVariants.{Own, Join}
use Rattle.ov_value.specs.declared.column.Column.{Column}
use Rattle.ov_value.specs.Shapes.{Shape}
use Rattle.ov_model.specs.Book.{Row, Version}
use Rattle.ov_model.specs.Holding.{VersionsAreIn, PartsHold, IsHeld, AreHeld}
use Rattle.ov_model.specs.Lists.{IsIn}
use Rattle.ov_model.specs.Moves.{Move, Init, Commit, BeginPlan, Copy, Flip, Drop, Checkpoint, moved, change, numbered, committed, with_version, version_of, wide, wide_part, wide_plan, wide_version, placed_at, parts_with, with_joined, own_part, new_set}
use Rattle.ov_model.specs.Placed.{times, part_times, id_times, PlanIs, IsPlaced, ArePlaced, AreThere, HasParents, AllHaveParents}
use Rattle.ov_model.specs.Plans.{parts_at, targets_of, planned, current, copied_for, copied_more, leaving, left_parts, target_part, next_target, flipped_by, flipped}
use Rattle.ov_model.specs.Records.{Rec, recs, records_of, ordered_records}
use Rattle.ov_model.specs.World.{Part, Target, Plan, Dataset, World, held, is_one, is_unmoved, targets_from}
use Rattle.ov_model.proofs.Counting.{one_if, one_same, filter_times, gone_times, listed, not_listed, range_versions, times-append}
use Rattle.ov_model.proofs.Growing.{length_recs}
use Rattle.law_partitions.specs.Courses.{IsDue, HasPartitions}
use Rattle.law_partitions.specs.OldOrNew.{IsRunning, Runs, IsOld, IsNew, IsOldOrNew, AreOldOrNew}
use Rattle.law_partitions.proofs.CountRuns.{all_from, from_at, none_from}
use Rattle.law_partitions.proofs.OldParts.{Either, Waits, in_append, in_map, in_filter, single, waits, waits_not, from_fewer, in_at, moved_past, joins_new}
use Rattle.law_partitions.proofs.PlanParts.{parts_times, parts_full, targets_times, targets_full, vid_once}
use Rattle.law_partitions.specs.Pieces.{target_times}

clash : {X : Type 0} → true ≡ false → X
clash e = cc

either_same : (p q : Option Plan) (part : Part) → ((vid : ℕ) → is_unmoved q vid ≡ is_unmoved p vid) → Either p part → Either q part
either_same p q part same (inl old) = inl (λ vid some. same vid ∙ old vid some)
either_same p q part same (inr new) = inr (record { moved = λ vid some. same vid ∙ new.moved vid some; tight = new.tight })

-- ---- a commit

own_new : (plan : Option Plan) (id vid : ℕ) (rs : List Rec) → is_unmoved plan vid ≡ false → IsNew plan (own_part id vid rs)
own_new plan id vid rs moved = record {
  moved = λ v some. subst (λ x. is_unmoved plan x ≡ false) (single vid v some) moved;
  tight = refl;
}

joined_new : (plan : Option Plan) (part : Part) (next : ℕ) (rs : List Rec) → is_unmoved plan next ≡ false → IsNew plan part → IsNew plan (with_joined next rs part)
joined_new plan part next rs last new = record {
  moved = λ vid some. elim (cases_Bool (is_one part.versions vid)) [
    | inl has ↦ new.moved vid (listed part.versions vid has)
    | inr lacks ↦
        let one : next ≡ vid = single next vid (omega (arith, some, times-append part.versions (next ∷ []) vid, not_listed part.versions vid lacks))
        in subst (λ x. is_unmoved plan x ≡ false) one last
  ];
  tight = ap (λ l. l ++ next ∷ []) new.tight;
}

abbrev IsSome : Option Plan → Part → Type 0
IsSome plan part = (0 < length part.versions) × Either plan part

join_if : (t : Bool) (plan : Option Plan) (part : Part) (next : ℕ) (rs : List Rec) → is_unmoved plan next ≡ false → (t ≡ true → IsNew plan part) → IsSome plan part
    → IsSome plan (if t then with_joined next rs part else part)
join_if true plan part next rs last new is = (omega (arith, length-append part.versions (next ∷ [])), inr (joined_new plan part next rs last (new refl)))
join_if false plan part next rs last new is = is

module _ (d : Dataset) (v : Version) (placed : IsPlaced d) (is : IsOldOrNew d) (has : HasParents v.parents d) where
  abbrev next : ℕ
  next = length d.cvd.versions + 1

  abbrev ours : List Rec
  ours = ordered_records d.cvd.versions v

  next_moved : is_unmoved d.plan next ≡ false
  next_moved = moved_past (length d.cvd.versions) d.plan next placed.targets (omega arith)

  with_some : (place : Place) → placed_at d v ≡ place → (part : Part) → IsIn (parts_with place d.next_part next ours d.parts) part → IsSome d.plan part
  with_some Own e part there =
      elim (in_append d.parts (own_part d.next_part next ours ∷ []) part there) [
        | inl before ↦ (is.some part before, is.either part before)
        | inr last ↦
            elim last [
              | inl same ↦ subst (IsSome d.plan) (sym same) (omega arith, inr (own_new d.plan d.next_part next ours next_moved))
              | inr none ↦ absurd none
            ]
      ]
  with_some (Join id) e part there =
      let from = in_map (λ x. if x.id == id then with_joined next ours x else x) d.parts part there
      in subst (IsSome d.plan) (sym from.2)
      (join_if (from.0.id == id) d.plan from.0 next ours next_moved (λ same. joins_new d v id placed is has e from.0 from.1 (eqb-true from.0.id id same))
      (is.some from.0 from.1, is.either from.0 from.1))

  version_old : IsOldOrNew (with_version v d)
  version_old = record {
    begun = omega (arith, length-append d.cvd.versions (v ∷ []));
    runs = is.runs;
    some = λ part there. (with_some (placed_at d v) refl part there).0;
    either = λ part there. (with_some (placed_at d v) refl part there).1;
  }

wide_waits : (n : ℕ) (plan : Option Plan) (vid : ℕ) → is_unmoved (wide_plan n plan) vid ≡ is_unmoved plan vid
wide_waits n None vid = refl
wide_waits n (Some plan) vid = refl

wide_runs : (n : ℕ) (plan : Option Plan) → Runs plan → Runs (wide_plan n plan)
wide_runs n None runs = tt
wide_runs n (Some plan) runs = record { waits = runs.waits; some = runs.some; once = runs.once }

wide_some : (n : ℕ) (plan : Option Plan) (part : Part) → IsSome plan part → IsSome (wide_plan n plan) (wide_part n part)
wide_some n plan part is = (is.0, wide_either is.1)
  where
    wide_either : Either plan part → Either (wide_plan n plan) (wide_part n part)
    wide_either (inl old) = inl (λ vid some. wide_waits n plan vid ∙ old vid some)
    wide_either (inr new) = inr (record { moved = λ vid some. wide_waits n plan vid ∙ new.moved vid some; tight = new.tight })

wide_old : (added : List Column) (d : Dataset) → IsOldOrNew d → IsOldOrNew (wide added d)
wide_old [] d is = is
wide_old (column ∷ added) d is =
    let n : ℕ = length (column ∷ added)
    in let each : (part : Part) → IsIn (map (wide_part n) d.parts) part → IsSome (wide_plan n d.plan) part =
    λ part there.
    let from = in_map (wide_part n) d.parts part there
    in subst (IsSome (wide_plan n d.plan)) (sym from.2) (wide_some n d.plan from.0 (is.some from.0 from.1, is.either from.0 from.1))
    in record {
      begun = omega (arith, is.begun, length-map d.cvd.versions (wide_version n));
      runs = wide_runs n d.plan is.runs;
      some = λ part there. (each part there).0;
      either = λ part there. (each part there).1;
    }

-- with columns more, partitions have the versions that they had
wide_times : (n : ℕ) (parts : List Part) (vid : ℕ) → part_times (map (wide_part n) parts) vid ≡ part_times parts vid
wide_times n [] vid = refl
wide_times n (part ∷ parts) vid = ap (λ k. times part.versions vid + k) (wide_times n parts vid)

wide_ids : (n : ℕ) (parts : List Part) (id : ℕ) → id_times (map (wide_part n) parts) id ≡ id_times parts id
wide_ids n [] id = refl
wide_ids n (part ∷ parts) id = ap (λ k. one_if (part.id == id) + k) (wide_ids n parts id)

wide_targets : (n most : ℕ) (plan : Option Plan) → PlanIs most plan → PlanIs most (wide_plan n plan)
wide_targets n most None are = tt
wide_targets n most (Some plan) are = are

pub wide_placed : (added : List Column) (d : Dataset) → IsPlaced d → IsPlaced (wide added d)
wide_placed [] d is = is
wide_placed (column ∷ added) d is =
    let n : ℕ = length (column ∷ added)
    in let same : length (map (wide_version n) d.cvd.versions) ≡ length d.cvd.versions = length-map d.cvd.versions (wide_version n)
    in record {
      each = λ vid from to. wide_times n d.parts vid ∙ is.each vid from (omega (arith, same, to));
      no_other = λ vid past. wide_times n d.parts vid ∙ is.no_other vid (omega (arith, same, past));
      ids_once = λ id. omega (arith, wide_ids n d.parts id, is.ids_once id);
      ids_below = λ id past. wide_ids n d.parts id ∙ is.ids_below id past;
      targets = wide_targets n (length (map (wide_version n) d.cvd.versions)) d.plan (subst (λ k. PlanIs k d.plan) (sym same) is.targets);
    }

wide_parents : (added : List Column) (d : Dataset) (parents : List ℕ) → HasParents parents d → HasParents parents (wide added d)
wide_parents [] d parents has = has
wide_parents (column ∷ added) d parents has =
    let n : ℕ = length (column ∷ added)
    in (has.0, subst (λ k. AreThere k parents) (sym (length-map d.cvd.versions (wide_version n))) has.1)

-- ---- a plan begins

there_of : (done : List (List Rec)) (versions : List ℕ) (all : List Rec) (vid : ℕ) → VersionsAreIn done versions all → 1 ≤ times versions vid → (1 ≤ vid) × (vid ≤ length done)
there_of done [] all vid are some = absurd (omega (arith, some))
there_of done (v ∷ versions) all vid are some =
    elim (cases_Bool (v == vid)) [
      | inl same ↦ subst (λ x. (1 ≤ x) × (x ≤ length done)) (eqb-true v vid same) are.0.0
      | inr other ↦ let none : one_if (v == vid) ≡ 0 = ap one_if other in there_of done versions all vid are.1 (omega (arith, some, none))
    ]

part_versions : (done : List (List Rec)) (parts : List Part) (part : Part) → PartsHold done parts → IsIn parts part → VersionsAreIn done part.versions (held part)
part_versions done [] part hold is = absurd is
part_versions done (x ∷ parts) part hold (inl same) = subst (λ y. VersionsAreIn done y.versions (held y)) (sym same) hold.0
part_versions done (x ∷ parts) part hold (inr later) = part_versions done parts part hold.1 later

some_target : (ts : List Target) → 1 ≤ target_times ts 1 → 0 < length ts
some_target [] some = absurd (omega (arith, some))
some_target (t ∷ ts) some = omega arith

-- every partition waits when a plan begins
module _ (p q : ℕ) (d : Dataset) (holds : IsHeld d) (is : IsOldOrNew d) where
  abbrev begun_with : List Target
  begun_with = targets_of d (parts_at d p q)

  all_times : (vid : ℕ) → target_times begun_with vid ≡ times (vids (length d.cvd.versions)) vid
  all_times vid = targets_times d (parts_at d p q) vid ∙ parts_times d p q vid

  pub planned_waits : (part : Part) → IsIn d.parts part → IsOld (planned p q d).plan part
  planned_waits part there vid some =
      let number : length (recs d.cvd.versions []) ≡ length d.cvd.versions = length_recs d.cvd.versions [] ∙ omega arith
      in let is_there = there_of (recs d.cvd.versions []) part.versions (held part) vid (part_versions (recs d.cvd.versions []) d.parts part holds there) some
      in ap (λ ts. Waits ts vid) (all_from begun_with)
      ∙ waits begun_with vid (omega (arith, all_times vid, vid_once (length d.cvd.versions) vid is_there.0 (omega (arith, number, is_there.1))))

  planned_old : IsOldOrNew (planned p q d)
  planned_old = record {
    begun = is.begun;
    runs = record {
      waits = some_target begun_with (omega (arith, all_times 1, vid_once (length d.cvd.versions) 1 (omega arith) (omega (arith, is.begun))));
      some = targets_full d (parts_at d p q) (parts_full d p q);
      once = λ vid. omega (arith, all_times vid, (range_versions (length d.cvd.versions)).once vid);
    };
    some = is.some;
    either = λ part there. inl (planned_waits part there);
  }

-- ---- a copy

copied_waits : (d : Dataset) (plan : Option Plan) (vid : ℕ) → is_unmoved (copied_for d plan) vid ≡ is_unmoved plan vid
copied_waits d None vid = refl
copied_waits d (Some plan) vid = refl

copied_runs : (d : Dataset) (plan : Option Plan) → Runs plan → Runs (copied_for d plan)
copied_runs d None runs = tt
copied_runs d (Some plan) runs = record { waits = runs.waits; some = runs.some; once = runs.once }

copied_old : (d : Dataset) → IsOldOrNew d → IsOldOrNew (copied_more d)
copied_old d is = record {
  begun = is.begun;
  runs = copied_runs d d.plan is.runs;
  some = is.some;
  either = λ part there. either_same d.plan (copied_for d d.plan) part (copied_waits d d.plan) (is.either part there);
}

-- ---- a flip

or_later : (a b : Bool) → a ≡ false → (a || b) ≡ true → b ≡ true
or_later true b e f = cc
or_later false b e f = f

or_none : (a b : Bool) → (a || b) ≡ false → (a ≡ false) × (b ≡ false)
or_none true b e = cc
or_none false b e = (refl, e)

keep_if : (t : Bool) (v : ℕ) (vs rest : List ℕ) → t ≡ false → rest ≡ vs → (if not t then v ∷ rest else rest) ≡ v ∷ vs
keep_if true v vs rest e same = cc
keep_if false v vs rest e same = ap (λ l. v ∷ l) same

keep_all : (ours vs : List ℕ) → ((vid : ℕ) → 1 ≤ times vs vid → is_one ours vid ≡ false) → filter (λ vid. not (is_one ours vid)) vs ≡ vs
keep_all ours [] none = refl
keep_all ours (v ∷ vs) none =
    keep_if (is_one ours v) v vs (filter (λ vid. not (is_one ours vid)) vs) (none v (omega (arith, one_same v v refl))) (keep_all ours vs (λ vid some. none vid (omega (arith, some))))

not_empty : (vs : List ℕ) → not (length vs == 0) ≡ true → 0 < length vs
not_empty [] e = cc
not_empty (v ∷ vs) e = omega arith

module _ (d : Dataset) (plan : Plan) (runs : IsRunning plan) where
  abbrev moving : List ℕ
  moving = (current plan).versions

  abbrev later : List Target
  later = targets_from (suc plan.at) plan.targets

  now_waits : (vid : ℕ) → is_unmoved (Some plan) vid ≡ (is_one moving vid || Waits later vid)
  now_waits vid = ap (λ ts. Waits ts vid) (from_at plan.at plan.targets runs.waits)

  abbrev next_if : Bool → Option Plan
  next_if t = if t then Some (record plan { at = plan.at + 1; copied = [] }) else None

  next_waits_if : (t : Bool) (vid : ℕ) → (t ≡ false → length plan.targets ≤ plan.at + 1) → is_unmoved (next_if t) vid ≡ Waits later vid
  next_waits_if true vid past = let one : plan.at + 1 ≡ suc plan.at = omega arith in ap (λ k. Waits (targets_from k plan.targets) vid) one
  next_waits_if false vid past = sym (ap (λ ts. Waits ts vid) (none_from (suc plan.at) plan.targets (omega (arith, past refl))))

  pub next_waits : (vid : ℕ) → is_unmoved (next_target plan) vid ≡ Waits later vid
  next_waits vid = next_waits_if (nat_lt (plan.at + 1) (length plan.targets)) vid (λ past. ltb-false (plan.at + 1) (length plan.targets) past)

  next_runs_if : (t : Bool) → (t ≡ true → plan.at + 1 < length plan.targets) → Runs (next_if t)
  next_runs_if true low = record { waits = low refl; some = runs.some; once = runs.once }
  next_runs_if false low = tt

  next_runs : Runs (next_target plan)
  next_runs = next_runs_if (nat_lt (plan.at + 1) (length plan.targets)) (λ low. ltb-true (plan.at + 1) (length plan.targets) low)

  -- a version of the current target is in no later one
  once_now : (vid : ℕ) → 1 ≤ times moving vid → Waits later vid ≡ false
  once_now vid some =
      let all : target_times (targets_from plan.at plan.targets) vid ≡ times moving vid + target_times later vid =
      ap (λ ts. target_times ts vid) (from_at plan.at plan.targets runs.waits)
      in waits_not later vid (omega (arith, all, some, from_fewer plan.at plan.targets vid, runs.once vid))

  pub left_old : (part : Part) → IsOld (Some plan) part → IsOld (next_target plan) (leaving moving part)
  left_old part old vid some =
      let still : is_one moving vid ≡ false =
      elim (cases_Bool (is_one moving vid)) [
        | inl gone ↦ absurd (omega (arith, some, gone_times moving part.versions vid gone))
        | inr stays ↦ stays
      ]
      in next_waits vid
      ∙ or_later (is_one moving vid) (Waits later vid) still
      (sym (now_waits vid) ∙ old vid (omega (arith, some, filter_times (λ v. not (is_one moving v)) part.versions vid)))

  none_leaves : (part : Part) → IsNew (Some plan) part → (vid : ℕ) → 1 ≤ times part.versions vid → (is_one moving vid ≡ false) × (Waits later vid ≡ false)
  none_leaves part new vid some = or_none (is_one moving vid) (Waits later vid) (sym (now_waits vid) ∙ new.moved vid some)

  pub none_left : (part : Part) → IsNew (Some plan) part → (leaving moving part).versions ≡ part.versions
  none_left part new = keep_all moving part.versions (λ vid some. (none_leaves part new vid some).0)

  pub still_new : (part : Part) → IsNew (Some plan) part → IsNew (next_target plan) part
  still_new part new = record { moved = λ vid some. next_waits vid ∙ (none_leaves part new vid some).1; tight = new.tight }

  left_either : (part : Part) → Either (Some plan) part → Either (next_target plan) (leaving moving part)
  left_either part (inl old) = inl (left_old part old)
  left_either part (inr new) = inr (record {
    moved = λ vid some. next_waits vid ∙ (none_leaves part new vid (omega (arith, some, filter_times (λ v. not (is_one moving v)) part.versions vid))).1;
    tight = new.tight ∙ sym (none_left part new);
  })

  pub target_new : IsNew (next_target plan) (target_part d plan)
  target_new = record { moved = λ vid some. next_waits vid ∙ once_now vid some; tight = refl }

  target_some : IsSome (next_target plan) (target_part d plan)
  target_some = (
    runs.some (current plan) (in_at plan.at plan.targets runs.waits),
    inr target_new,
  )

  flip_some : IsOldOrNew d → d.plan ≡ Some plan → (part : Part) → IsIn (flipped_by d (Some plan)).parts part → IsSome (next_target plan) part
  flip_some is e part there =
      elim (in_append (left_parts moving d.parts) (target_part d plan ∷ []) part there) [
        | inl before ↦
            let full = in_filter (λ x. not (length x.versions == 0)) (map (leaving moving) d.parts) part before
            in let from = in_map (leaving moving) d.parts part full.0
            in (
              not_empty part.versions full.1,
              subst (Either (next_target plan)) (sym from.2) (left_either from.0 (subst (λ p. Either p from.0) e (is.either from.0 from.1))),
            )
        | inr last ↦
            elim last [
              | inl same ↦ subst (IsSome (next_target plan)) (sym same) target_some
              | inr none ↦ absurd none
            ]
      ]

pub flip_old : (d : Dataset) (plan : Option Plan) → d.plan ≡ plan → IsOldOrNew d → IsOldOrNew (flipped_by d plan)
flip_old d None e is = is
flip_old d (Some plan) e is =
    let runs : IsRunning plan = subst Runs e is.runs
    in record {
      begun = is.begun;
      runs = next_runs d plan runs;
      some = λ part there. (flip_some d plan runs is e part there).0;
      either = λ part there. (flip_some d plan runs is e part there).1;
    }

-- ---- Worlds

new_old : (number : ℕ) (name : List ℕ) (schema : Shape) (rows : List Row) → IsOldOrNew (new_set number name schema rows)
new_old number name schema rows = record {
  begun = omega arith;
  runs = tt;
  some = λ part there. (each part there).0;
  either = λ part there. (each part there).1;
}
  where
    ours : List Rec
    ours = records_of (version_of [] (codes "init") rows) []

    each : (part : Part) → IsIn (own_part 1 1 ours ∷ []) part → IsSome None part
    each part (inl same) = subst (IsSome None) (sym same) (omega arith, inr (own_new None 1 1 ours refl))
    each part (inr none) = absurd none

old-append : (a b : List Dataset) → AreOldOrNew a → AreOldOrNew b → AreOldOrNew (a ++ b)
old-append [] b are more = more
old-append (d ∷ a) b are more = (are.0, old-append a b are.1 more)

old_if : (t : Bool) (d : Dataset) (sets : List Dataset) → IsOldOrNew d → AreOldOrNew sets → AreOldOrNew (if t then d ∷ sets else sets)
old_if true d sets is are = (is, are)
old_if false d sets is are = are

old-filter : (test : Dataset → Bool) (sets : List Dataset) → AreOldOrNew sets → AreOldOrNew (filter test sets)
old-filter test [] are = tt
old-filter test (d ∷ sets) are = old_if (test d) d (filter test sets) are.0 (old-filter test sets are.1)

change_if : (t : Bool) (f : Dataset → Dataset) (d : Dataset) → (t ≡ true → IsOldOrNew (f d)) → IsOldOrNew d → IsOldOrNew (if t then f d else d)
change_if true f d more is = more refl
change_if false f d more is = is

old_changed : (cvd : ℕ) (f : Dataset → Dataset) (sets : List Dataset) → ((d : Dataset) → IsOldOrNew d → IsOldOrNew (f d)) → AreOldOrNew sets → AreOldOrNew (change cvd f sets)
old_changed cvd f [] more are = tt
old_changed cvd f (d ∷ sets) more are = (change_if (numbered cvd d) f d (λ t. more d are.0) are.0, old_changed cvd f sets more are.1)

old_committed : (cvd : ℕ) (parents message : List ℕ) (added : List Column) (rows : List Row) (sets : List Dataset) → ArePlaced sets → AllHaveParents cvd parents sets → AreOldOrNew sets
    → AreOldOrNew (change cvd (committed parents message added rows) sets)
old_committed cvd parents message added rows [] placed has are = tt
old_committed cvd parents message added rows (d ∷ sets) placed has are = (
  change_if (numbered cvd d) (committed parents message added rows) d
      (λ t. commit_old (has.0 (eqb-true d.cvd.number cvd t))) are.0,
  old_committed cvd parents message added rows sets placed.1 has.1 are.1,
)
  where
    commit_old : HasParents parents d → IsOldOrNew (committed parents message added rows d)
    commit_old has = version_old (wide added d) (version_of parents message rows) (wide_placed added d placed.0) (wide_old added d are.0) (wide_parents added d parents has)

old_planned : (cvd p q : ℕ) (sets : List Dataset) → AreHeld sets → AreOldOrNew sets → AreOldOrNew (change cvd (planned p q) sets)
old_planned cvd p q [] holds are = tt
old_planned cvd p q (d ∷ sets) holds are = (
  change_if (numbered cvd d) (planned p q) d (λ t. planned_old p q d holds.0 are.0) are.0,
  old_planned cvd p q sets holds.1 are.1,
)

pub moved_old : (m : Move) (w : World) → IsDue m w → HasPartitions w → AreOldOrNew w.sets → AreOldOrNew (moved m w).sets
moved_old (Init name schema rows) w due has are = old-append w.sets (new_set w.next name schema rows ∷ []) are (new_old w.next name schema rows, tt)
moved_old (Commit cvd parents message added rows) w due has are = old_committed cvd parents message added rows w.sets has.placed due.may.parents are
moved_old (BeginPlan cvd p q) w due has are = old_planned cvd p q w.sets has.held are
moved_old (Copy cvd) w due has are = old_changed cvd copied_more w.sets copied_old are
moved_old (Flip cvd) w due has are = old_changed cvd flipped w.sets (λ d is. flip_old d d.plan refl is) are
moved_old (Drop cvd) w due has are = old-filter (λ d. not (numbered cvd d)) w.sets are
moved_old Checkpoint w due has are = are
