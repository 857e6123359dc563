-- A partition that waits for a plan is gone where the plan has ended.
use Rattle.std.proofs.Common.{◌≡◌, ◌≤◌, ◌<◌, ℕ, ◌+◌, Bool, true, false, ◌==◌, List, [], ◌∷◌, map, length, refl, sym, ◌∙◌, ap, subst, inl, inr, arith}
use Rattle.std.specs.Prelude.{◌≢◌, not, nat_lt, if◌then◌else◌, Option, Some, None}
use Rattle.std.proofs.lemmas.Bool.{cases_Bool, eqb-true, ltb-false, ltb-true}
use Rattle.std.proofs.lemmas.List.{length-map}
use Rattle.ov_place.specs.declared.place_facts.Place.{Place}
use Rattle.ov_place.specs.declared.place_facts.Place.TheVariants.{Own, Join}
use Rattle.ov_value.specs.declared.column.Column.{Column}
use Rattle.ov_model.specs.Book.{Row, Version}
use Rattle.ov_model.specs.Course.{Item, world_at}
use Rattle.ov_model.specs.Lists.{IsIn}
use Rattle.ov_model.specs.Moves.{Move, Init, Commit, BeginPlan, Copy, Flip, Drop, Checkpoint, numbered, committed, next_with, own_part, parts_with, placed_at, version_of, wide, wide_part, wide_plan, wide_version, with_joined, with_version}
use Rattle.ov_model.specs.Placed.{AllHaveParents, ArePlaced, AreThere, HasParents, IsPlaced, id_times}
use Rattle.ov_model.specs.Plans.{copied_more, current, flipped, flipped_by, leaving, left_parts, planned, target_part}
use Rattle.ov_model.specs.Records.{Rec, ordered_records}
use Rattle.ov_model.specs.World.{Part, Plan, Dataset, World, is_unmoved}
use Rattle.ov_model.proofs.Counting.{one_if, one_same}
use Rattle.law_partitions.specs.Courses.{IsDue}
use Rattle.law_partitions.specs.OldOrNew.{IsOld, IsOldOrNew, Runs}
use Rattle.law_partitions.proofs.CourseNumbers.{one_dataset}
use Rattle.law_partitions.proofs.OldGone.{copied_waits, flipped_waits, version_waits}
use Rattle.law_partitions.proofs.OldMoves.{flip_old, wide_placed}
use Rattle.law_partitions.proofs.OldParts.{Either, in_append, in_filter, in_map, some_id}
use Rattle.law_partitions.proofs.OldTight.{first_listed, old_in}
use Rattle.law_plans.specs.Ends.{BeginsNoPlan, EndsPlan, Waits}
use Rattle.law_plans.specs.Runs.{Between, HasPlans, IsRun}
use Rattle.law_plans.proofs.Datasets.{Each, below_next, each_moved, kept_if, made}
use Rattle.law_plans.proofs.Finishing.{old_here}
use Rattle.law_plans.proofs.Walking.{plans_at, walk}

clash : {X : Type 0} → true ≡ false → X
clash e = cc

-- ---- with columns more

wide_unmoved : (n : ℕ) (plan : Option Plan) (vid : ℕ) → is_unmoved (wide_plan n plan) vid ≡ is_unmoved plan vid
wide_unmoved n None vid = refl
wide_unmoved n (Some plan) vid = refl

wide_runs : (n : ℕ) (plan : Option Plan) → Runs plan → Runs (wide_plan n plan)
wide_runs n None runs = tt
wide_runs n (Some plan) runs = record { waits = runs.waits; some = runs.some; once = runs.once }

wide_either : (n : ℕ) (plan : Option Plan) (part : Part) → Either plan part → Either (wide_plan n plan) (wide_part n part)
wide_either n plan part (inl old) = inl (λ vid some. wide_unmoved n plan vid ∙ old vid some)
wide_either n plan part (inr new) = inr (record { moved = λ vid some. wide_unmoved n plan vid ∙ new.moved vid some; tight = new.tight })

wide_old : (added : List Column) (d : Dataset) → IsOldOrNew d → IsOldOrNew (wide added d)
wide_old [] d is = is
wide_old (column ∷ added) d is =
    let n : ℕ = length (column ∷ added)
    in record {
      begun = omega (arith, is.begun, length-map d.cvd.versions (wide_version n));
      runs = wide_runs n d.plan is.runs;
      some = λ part there. let from = in_map (wide_part n) d.parts part there in subst (λ x. 0 < length x.versions) (sym from.2) (is.some from.0 from.1);
      either = λ part there. let from = in_map (wide_part n) d.parts part there in subst (Either (wide_plan n d.plan)) (sym from.2) (wide_either n d.plan from.0 (is.either from.0 from.1));
    }

wide_parents : (added : List Column) (d : Dataset) (parents : List ℕ) → HasParents parents d → HasParents parents (wide added d)
wide_parents [] d parents has = has
wide_parents (column ∷ added) d parents has =
    let n : ℕ = length (column ∷ added)
    in (has.0, subst (λ k. AreThere k parents) (sym (length-map d.cvd.versions (wide_version n))) has.1)

-- ---- a number of a partition that waits, or is gone

-- it was given before, and a partition that has it waits
pub record IsWaiting (id : ℕ) (d : Dataset) : Type 0 where
  pub given : id < d.next_part
  pub old : (part : Part) → IsIn d.parts part → part.id ≡ id → IsOld d.plan part

wide_waiting : (id : ℕ) (added : List Column) (d : Dataset) → IsWaiting id d → IsWaiting id (wide added d)
wide_waiting id [] d is = is
wide_waiting id (column ∷ added) d is =
    let n : ℕ = length (column ∷ added)
    in record {
      given = is.given;
      old = λ part there same.
          let from = in_map (wide_part n) d.parts part there
          in subst (IsOld (wide_plan n d.plan)) (sym from.2)
          (λ vid some. wide_unmoved n d.plan vid ∙ is.old from.0 from.1 ((λ i. (sym from.2 i).id) ∙ same) vid some);
    }

same_id : (t : Bool) (part : Part) (next : ℕ) (rs : List Rec) → (if t then with_joined next rs part else part).id ≡ part.id
same_id true part next rs = refl
same_id false part next rs = refl

-- a partition with a number that was given before has it from one that was there
version_part : (place : Place) (next vid : ℕ) (rs : List Rec) (parts : List Part) (after : Part) → after.id < next → IsIn (parts_with place next vid rs parts) after → (part : Part) × (IsIn parts part) × (after.id ≡ part.id)
version_part Own next vid rs parts after low there = elim (in_append parts (own_part next vid rs ∷ []) after there) [
  | inl before ↦ (after, before, refl)
  | inr last ↦
      elim last [
        | inl same ↦ absurd (omega (arith, low, ap (λ x. x.id) same))
        | inr none ↦ absurd none
      ]
]
version_part (Join id) next vid rs parts after low there =
    let from = in_map (λ part. if part.id == id then with_joined vid rs part else part) parts after there
    in (from.0, from.1, ap (λ x. x.id) from.2 ∙ same_id (from.0.id == id) from.0 vid rs)

next_more : (place : Place) (next : ℕ) → next ≤ next_with place next
next_more Own next = omega arith
next_more (Join id) next = omega arith

version_waiting : (id : ℕ) (v : Version) (d : Dataset) → IsPlaced d → IsOldOrNew d → HasParents v.parents d → IsWaiting id d → IsWaiting id (with_version v d)
version_waiting id v d placed old has is = record {
  given = omega (arith, is.given, next_more (placed_at d v) d.next_part);
  old = λ after there same.
      let from = version_part (placed_at d v) d.next_part (length d.cvd.versions + 1) (ordered_records d.cvd.versions v) d.parts after (omega (arith, same, is.given)) there
      in version_waits d placed old from.0 from.1 (is.old from.0 from.1 (sym from.2 ∙ same)) v has after there from.2;
}

flip_part : (d : Dataset) (plan : Option Plan) (after : Part) → after.id < d.next_part → IsIn (flipped_by d plan).parts after → (part : Part) × (IsIn d.parts part) × (after.id ≡ part.id)
flip_part d None after low there = (after, there, refl)
flip_part d (Some plan) after low there =
    let moving : List ℕ = (current plan).versions
    in elim (in_append (left_parts moving d.parts) (target_part d plan ∷ []) after there) [
      | inl before ↦
          let full = in_filter (λ x. not (length x.versions == 0)) (map (leaving moving) d.parts) after before
          in let from = in_map (leaving moving) d.parts after full.0
          in (from.0, from.1, ap (λ x. x.id) from.2)
      | inr last ↦
          elim last [
            | inl same ↦ absurd (omega (arith, low, ap (λ x. x.id) same))
            | inr none ↦ absurd none
          ]
    ]

flip_next : (d : Dataset) (plan : Option Plan) → d.next_part ≤ (flipped_by d plan).next_part
flip_next d None = omega arith
flip_next d (Some plan) = omega arith

flip_waiting : (id : ℕ) (d : Dataset) → IsPlaced d → IsOldOrNew d → IsWaiting id d → IsWaiting id (flipped d)
flip_waiting id d placed old is = record {
  given = omega (arith, is.given, flip_next d d.plan);
  old = λ after there same.
      let from = flip_part d d.plan after (omega (arith, same, is.given)) there
      in flipped_waits d placed old from.0 from.1 (is.old from.0 from.1 (sym from.2 ∙ same)) after there from.2;
}

copy_waiting : (id : ℕ) (d : Dataset) → IsPlaced d → IsOldOrNew d → IsWaiting id d → IsWaiting id (copied_more d)
copy_waiting id d placed old is = record {
  given = is.given;
  old = λ after there same. copied_waits d placed old after there (is.old after there same) after there refl;
}

-- ---- each move but a beginning keeps it

parents_in : (cvd : ℕ) (parents : List ℕ) (sets : List Dataset) (d : Dataset) → AllHaveParents cvd parents sets → IsIn sets d → d.cvd.number ≡ cvd → HasParents parents d
parents_in cvd parents [] d has is same = absurd is
parents_in cvd parents (x ∷ sets) d has (inl here) same = subst (HasParents parents) (sym here) (has.0 ((λ i. (sym here i).cvd.number) ∙ same))
parents_in cvd parents (x ∷ sets) d has (inr later) same = parents_in cvd parents sets d has.1 later same

placed_in : (sets : List Dataset) (d : Dataset) → ArePlaced sets → IsIn sets d → IsPlaced d
placed_in [] d are is = absurd is
placed_in (x ∷ sets) d are (inl same) = subst IsPlaced (sym same) are.0
placed_in (x ∷ sets) d are (inr later) = placed_in sets d are.1 later

module _ (id number : ℕ) (w : World) (d : Dataset) (has : HasPlans w) (there : IsIn w.sets d) (same : d.cvd.number ≡ number) (is : IsWaiting id d) where
  placed : IsPlaced d
  placed = placed_in w.sets d has.sound.placed there

  old : IsOldOrNew d
  old = old_in w.sets d has.old_or_new there

  commit_waiting : (parents message : List ℕ) (added : List Column) (rows : List Row) → HasParents parents d → IsWaiting id (committed parents message added rows d)
  commit_waiting parents message added rows parents_are =
      version_waiting id (version_of parents message rows) (wide added d) (wide_placed added d placed) (wide_old added d old) (wide_parents added d parents parents_are) (wide_waiting id added d is)

  pub made_waiting : (m : Move) → IsDue m w → BeginsNoPlan number m → IsWaiting id (made m d)
  made_waiting (Init name schema rows) due quiet = is
  made_waiting (Commit cvd parents message added rows) due quiet =
      kept_if (numbered cvd d) (IsWaiting id) (committed parents message added rows) d
      (λ t. commit_waiting parents message added rows (parents_in cvd parents w.sets d due.may.parents there (eqb-true d.cvd.number cvd t))) is
  made_waiting (BeginPlan cvd p q) due quiet =
      kept_if (numbered cvd d) (IsWaiting id) (planned p q) d (λ t. absurd (quiet (sym (eqb-true d.cvd.number cvd t) ∙ same))) is
  made_waiting (Copy cvd) due quiet = kept_if (numbered cvd d) (IsWaiting id) copied_more d (λ t. copy_waiting id d placed old is) is
  made_waiting (Flip cvd) due quiet = kept_if (numbered cvd d) (IsWaiting id) flipped d (λ t. flip_waiting id d placed old is) is
  made_waiting (Drop cvd) due quiet = is
  made_waiting Checkpoint due quiet = is

-- ---- from an earlier World to the end

one_part : (parts : List Part) (a b : Part) → id_times parts a.id ≤ 1 → IsIn parts a → IsIn parts b → b.id ≡ a.id → b ≡ a
one_part [] a b once is_a is_b same = absurd is_a
one_part (x ∷ parts) a b once (inl here) (inl also) same = also ∙ sym here
one_part (x ∷ parts) a b once (inl here) (inr later) same =
    let one : one_if (x.id == a.id) ≡ 1 = one_same x.id a.id (λ i. (sym here i).id)
    in let more : 1 ≤ id_times parts a.id = subst (λ n. 1 ≤ id_times parts n) same (some_id parts b later)
    in absurd (omega (arith, once, one, more))
one_part (x ∷ parts) a b once (inr later) (inl here) same =
    let one : one_if (x.id == a.id) ≡ 1 = one_same x.id a.id ((λ i. (sym here i).id) ∙ same)
    in absurd (omega (arith, once, one, some_id parts a later))
one_part (x ∷ parts) a b once (inr later) (inr too) same = one_part parts a b (omega (arith, once)) later too same

waits_old : (d : Dataset) (part : Part) → Waits d part → Either d.plan part → IsOld d.plan part
waits_old d part waits (inl old) = old
waits_old d part waits (inr new) = clash (sym waits.unmoved ∙ new.moved waits.vid waits.served)

-- numbers that partitions have were given
part_given : (d : Dataset) (part : Part) → IsPlaced d → IsIn d.parts part → part.id < d.next_part
part_given d part placed there = elim (cases_Bool (nat_lt part.id d.next_part)) [
  | inl low ↦ ltb-true part.id d.next_part low
  | inr high ↦ absurd (omega (arith, some_id d.parts part there, placed.ids_below part.id (ltb-false part.id d.next_part high)))
]

waits_now : (d : Dataset) (part : Part) → IsPlaced d → IsOldOrNew d → IsIn d.parts part → Waits d part → IsWaiting part.id d
waits_now d part placed old there waits = record {
  given = part_given d part placed there;
  old = λ other is same.
      subst (IsOld d.plan) (sym (one_part d.parts part other (placed.ids_once part.id) there is same)) (waits_old d part waits (old.either part there));
}

none_waits : (d : Dataset) (part : Part) → IsOldOrNew d → d.plan ≡ None → IsIn d.parts part → IsOld d.plan part → ⊥
none_waits d part old ends there waits =
    let first = first_listed part.versions (old.some part there)
    in clash (sym (waits first.0 first.1) ∙ ap (λ plan. is_unmoved plan first.0) ends)

pub gone : (w : World) (items : List Item) (j k : ℕ) (d e : Dataset) (plan : Plan) (part : Part) → IsRun w items → EndsPlan w items k d plan
    → j ≤ k → Between items j k (BeginsNoPlan d.cvd.number) → IsIn (world_at w items j).sets e → e.cvd.number ≡ d.cvd.number
    → IsIn e.parts part → Waits e part → (after : Part) → IsIn (flipped d).parts after → after.id ≢ part.id
gone w items j k d e plan part run ends up quiet there same is waits after there_after same_id =
    let number : ℕ = d.cvd.number
    in let start : HasPlans (world_at w items j) = plans_at w items j run
    in let first : IsWaiting part.id e = waits_now e part (placed_in (world_at w items j).sets e start.sound.placed there) (old_in (world_at w items j).sets e start.old_or_new there) is waits
    in let each : Each number (IsWaiting part.id) (world_at w items k) =
    walk (Each number (IsWaiting part.id)) (BeginsNoPlan number) w items run
    (λ m v due has calm each. each_moved number (IsWaiting part.id) (IsWaiting part.id) m v each (λ x there_x same_x is_x. made_waiting part.id number v x has there_x same_x is_x m due calm))
    j k up quiet
    (record {
      given = omega (arith, same, below_next (world_at w items j) e start.sound.numbered there);
      holds = λ x there_x same_x.
          subst (IsWaiting part.id) (sym (one_dataset (world_at w items j).sets e x (start.sound.numbered.once e.cvd.number) there there_x (same_x ∙ sym same))) first;
    })
    in let old : IsOldOrNew d = old_here w items k d plan run ends
    in let last : IsWaiting part.id (flipped d) =
    flip_waiting part.id d (placed_in (world_at w items k).sets d (plans_at w items k run).sound.placed ends.there) old (each.holds d ends.there refl)
    in none_waits (flipped d) after (flip_old d d.plan refl old) ends.last there_after (last.old after there_after same_id)
