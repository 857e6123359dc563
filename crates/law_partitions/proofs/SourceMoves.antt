-- What a waiting target keeps stands in a partition that goes with its flip, and each move keeps that.
use Rattle.std.proofs.Common.{◌≡◌, ◌≤◌, ◌⊎◌, ℕ, suc, ◌+◌, Bool, true, false, ◌==◌, List, [], ◌∷◌, ◌++◌, length, map, filter, refl, sym, ◌∙◌, ap, subst, inl, inr, arith}
use Rattle.std.specs.Prelude.{◌≢◌, ◌||◌, not, nat_lt, nat_le, if◌then◌else◌, Option, Some, None}
use Rattle.std.specs.List.{list_all, list_any}
use Rattle.std.proofs.lemmas.Bool.{cases_Bool, cond-true, cond-false, eq-eqb, eqb-true, ne_eqb}
use Rattle.ov_place.specs.declared.place_facts.Place.{Place}
use Rattle.ov_place.specs.declared.place_facts.Place.TheVariants.{Own, Join}
use Rattle.ov_value.specs.declared.column.Column.{Column}
use Rattle.ov_model.specs.Book.{Row, Version}
use Rattle.ov_model.specs.Lists.{IsIn}
use Rattle.ov_model.specs.Moves.{Move, Init, Commit, BeginPlan, Copy, Flip, Drop, Checkpoint, moved, change, numbered, committed, with_version, version_of, wide, wide_part, wide_plan, placed_at, parts_with, with_joined, own_part, new_set}
use Rattle.ov_model.specs.Placed.{times, id_times, IsPlaced, ArePlaced}
use Rattle.ov_model.specs.Plans.{parts_at, meets, empties, modification, cheaper, cheapest, source_of, pieces_of, places_within, records_in, target_of, targets_of, planned, copied_for, copied_more, current, leaving, left_parts, target_part, flipped_by, flipped}
use Rattle.ov_model.specs.Records.{Rec, is_among, ordered_records}
use Rattle.ov_model.specs.World.{Part, Target, Plan, Dataset, World, is_one, is_unmoved, targets_from}
use Rattle.ov_model.proofs.Counting.{one_same, filter_times, listed}
use Rattle.law_partitions.specs.Courses.{IsDue}
use Rattle.law_partitions.specs.OldOrNew.{IsRunning, Runs, IsOld, IsOldOrNew, AreOldOrNew}
use Rattle.law_partitions.specs.Pieces.{versions_of, target_times, PlanIsUnderWay, HasPieces, ArePieces}
use Rattle.law_partitions.specs.Sound.{IsSound}
use Rattle.law_partitions.specs.Sources.{AscendFrom, IsSourced, AllSourced, PlanIsSourced, AreSourced}
use Rattle.law_partitions.proofs.CountRuns.{all_from, from_at}
use Rattle.law_partitions.proofs.OldMoves.{wide_placed}
use Rattle.law_partitions.proofs.OldParts.{Waits, in_append, in_map, in_filter, moved_past, some_id, waits_not, from_fewer}
use Rattle.law_partitions.proofs.PieceFlip.{is_listed, met, meeting}
use Rattle.law_partitions.proofs.PieceMore.{current_kept}
use Rattle.law_partitions.proofs.PieceTimes.{right_true}

clash : {X : Type 0} → true ≡ false → X
clash e = cc

-- ---- a partition by its number

versions_if : (t : Bool) (versions later : List ℕ) (vid : ℕ) → is_one (if t then versions else later) vid ≡ true → ((t ≡ true) × (is_one versions vid ≡ true)) ⊎ (is_one later vid ≡ true)
versions_if true versions later vid e = inl (refl, e)
versions_if false versions later vid e = inr e

abbrev HasOwner : List Part → ℕ → ℕ → Type 0
HasOwner parts id vid = (part : Part) × IsIn parts part × (part.id ≡ id) × (is_one part.versions vid ≡ true)

-- what is found by a number is served by a partition of that number
owner : (parts : List Part) (id vid : ℕ) → is_one (versions_of parts id) vid ≡ true → HasOwner parts id vid
owner [] id vid e = cc
owner (part ∷ parts) id vid e =
    elim (versions_if (part.id == id) part.versions (versions_of parts id) vid e) [
      | inl here ↦ (part, inl refl, eqb-true part.id id here.0, here.1)
      | inr later ↦ let more = owner parts id vid later in (more.0, inr more.1, more.2, more.3)
    ]

-- and the other way round, where no other partition has the number
pub found : (parts : List Part) (part : Part) → id_times parts part.id ≤ 1 → IsIn parts part → versions_of parts part.id ≡ part.versions
found [] part once is = absurd is
found (x ∷ parts) part once (inl same) =
    cond-true (x.id == part.id) x.versions (versions_of parts part.id) (eq-eqb x.id part.id (λ i. (sym same i).id)) ∙ (λ i. (sym same i).versions)
found (x ∷ parts) part once (inr later) =
    cond-false (x.id == part.id) x.versions (versions_of parts part.id) (ne_eqb x.id part.id (λ same. omega (arith, once, one_same x.id part.id same, some_id parts part later)))
    ∙ found parts part (omega (arith, once)) later

served : (parts : List Part) (part : Part) (id vid : ℕ) → ((n : ℕ) → id_times parts n ≤ 1) → IsIn parts part → part.id ≡ id → is_one part.versions vid ≡ true → is_one (versions_of parts id) vid ≡ true
served parts part id vid once is same there =
    subst (λ n. is_one (versions_of parts n) vid ≡ true) same (ap (λ versions. is_one versions vid) (found parts part (once part.id) is) ∙ there)

-- ---- what comes to partitions is of no target that waits

-- a version that a partition serves afterwards it served before, or no target of these has it
abbrev pub Narrows : List Part → List Part → List Target → Type 0
Narrows before after ts = (id vid : ℕ) → is_one (versions_of after id) vid ≡ true → (is_one (versions_of before id) vid ≡ true) ⊎ (Waits ts vid ≡ false)

or_none : (a b : Bool) → (a || b) ≡ false → (a ≡ false) × (b ≡ false)
or_none true b e = cc
or_none false b e = (refl, e)

narrows_behind : (before after : List Part) (t : Target) (ts : List Target) → Narrows before after (t ∷ ts) → Narrows before after ts
narrows_behind before after t ts narrow id vid there =
    elim (narrow id vid there) [
      | inl was ↦ inl was
      | inr none ↦ inr (or_none (is_one t.versions vid) (Waits ts vid) none).1
    ]

not_in : (ts : List Target) (other : Target) (vid : ℕ) → Waits ts vid ≡ false → IsIn ts other → is_one other.versions vid ≡ false
not_in [] other vid none is = absurd is
not_in (t ∷ ts) other vid none (inl same) = (λ i. is_one (same i).versions vid) ∙ (or_none (is_one t.versions vid) (Waits ts vid) none).0
not_in (t ∷ ts) other vid none (inr later) = not_in ts other vid (or_none (is_one t.versions vid) (Waits ts vid) none).1 later

last_still : (before after : List Part) (ts : List Target) (source : ℕ) → Narrows before after ts → ((other : Target) → IsIn ts other → meets other.versions (versions_of before source) ≡ false)
    → (other : Target) → IsIn ts other → meets other.versions (versions_of after source) ≡ false
last_still before after ts source narrow last other there =
    elim (cases_Bool (meets other.versions (versions_of after source))) [
      | inl meet ↦
          let both = met other.versions (versions_of after source) meet
          in elim (narrow source both.0 both.2) [
            | inl was ↦ clash (sym (meeting other.versions (versions_of before source) both.0 both.1 was) ∙ last other there)
            | inr none ↦ clash (sym both.1 ∙ not_in ts other both.0 none there)
          ]
      | inr apart ↦ apart
    ]

pub sourced_still : (d after : Dataset) (ts : List Target) → Narrows d.parts after.parts ts → AllSourced d ts → AllSourced after ts
sourced_still d after [] narrow are = tt
sourced_still d after (t ∷ ts) narrow are =
    let behind : Narrows d.parts after.parts ts = narrows_behind d.parts after.parts t ts narrow
    in (record { ascend = are.0.ascend; last = last_still d.parts after.parts ts t.source behind are.0.last }, sourced_still d after ts behind are.1)

-- ---- a plan begins

from_less : (a b : ℕ) (ns : List ℕ) → a ≤ b → AscendFrom b ns → AscendFrom a ns
from_less a b [] le up = tt
from_less a b (n ∷ ns) le up = (omega (arith, le, up.0), up.1)

ascend_if : (t : Bool) (at : ℕ) (rest : List ℕ) → AscendFrom (at + 1) rest → AscendFrom at (if t then at ∷ rest else rest)
ascend_if true at rest up = (omega arith, up)
ascend_if false at rest up = from_less at (at + 1) rest (omega arith) up

pub places_ascend : (wanted : List Rec) (at : ℕ) (pieces : List (List Rec)) → AscendFrom at (places_within at wanted pieces)
places_ascend wanted at [] = tt
places_ascend wanted at (piece ∷ pieces) = ascend_if (list_all (is_among wanted) piece) at (places_within (at + 1) wanted pieces) (places_ascend wanted (at + 1) pieces)

some_same : (a b : ℕ × ℕ) → Some a ≡ Some b → a ≡ b
some_same a b e = cc

none_some : (b : ℕ × ℕ) → None ≡ Some b → ⊥
none_some b e = cc

cheaper_is : (a : ℕ × ℕ) (rest : Option (ℕ × ℕ)) (best : ℕ × ℕ) → cheaper a rest ≡ Some best → (best ≡ a) ⊎ (rest ≡ Some best)
cheaper_is a None best e = inl (sym (some_same a best e))
cheaper_is a (Some b) best e = by (nat_le a.1 b.1) e
  where
    by : (t : Bool) → (if t then Some a else Some b) ≡ Some best → (best ≡ a) ⊎ (Some b ≡ Some best)
    by true f = inl (sym (some_same a best f))
    by false f = inr f

unless : (t : Bool) → not t ≡ true → t ≡ false
unless true e = cc
unless false e = refl

none_meets : (d : Dataset) (later : List (List ℕ)) (versions : List ℕ) → list_any (λ other. meets other versions) later ≡ false → (other : Target) → IsIn (targets_of d later) other
    → meets other.versions versions ≡ false
none_meets d [] versions none other is = absurd is
none_meets d (vs ∷ later) versions none other (inl same) =
    (λ i. meets (same i).versions versions) ∙ (or_none (meets vs versions) (list_any (λ o. meets o versions) later) none).0
none_meets d (vs ∷ later) versions none other (inr behind) = none_meets d later versions (or_none (meets vs versions) (list_any (λ o. meets o versions) later) none).1 other behind

module _ (wanted : List Rec) (versions : List ℕ) (later : List (List ℕ)) where
  -- a partition of this number that the target empties
  abbrev pub Goes : List Part → ℕ → Type 0
  Goes parts id = (part : Part) × IsIn parts part × (part.id ≡ id) × (empties versions later part ≡ true)

  goes_behind : (part : Part) (parts : List Part) (id : ℕ) → Goes parts id → Goes (part ∷ parts) id
  goes_behind part parts id goes = (goes.0, inr goes.1, goes.2, goes.3)

  cheapest_if : (t : Bool) (part : Part) (parts : List Part) (best : ℕ × ℕ) → empties versions later part ≡ t
      → (cheapest wanted versions later parts ≡ Some best → Goes parts best.0)
      → (if t then cheaper (part.id, modification wanted part) (cheapest wanted versions later parts) else cheapest wanted versions later parts) ≡ Some best
      → Goes (part ∷ parts) best.0
  cheapest_if true part parts best is more e =
      elim (cheaper_is (part.id, modification wanted part) (cheapest wanted versions later parts) best e) [
        | inl same ↦ (part, inl refl, sym (ap (λ p. p.0) same), is)
        | inr rest ↦ goes_behind part parts best.0 (more rest)
      ]
  cheapest_if false part parts best is more e = goes_behind part parts best.0 (more e)

  pub cheapest_goes : (parts : List Part) (best : ℕ × ℕ) → cheapest wanted versions later parts ≡ Some best → Goes parts best.0
  cheapest_goes [] best e = absurd (none_some best e)
  cheapest_goes (part ∷ parts) best e = cheapest_if (empties versions later part) part parts best refl (cheapest_goes parts best) e

module _ (d : Dataset) (once : (id : ℕ) → id_times d.parts id ≤ 1) (no_zero : id_times d.parts 0 ≡ 0) where
  -- no partition has the number 0
  apart_from_none : (other : Target) → meets other.versions (versions_of d.parts 0) ≡ false
  apart_from_none other =
      elim (cases_Bool (meets other.versions (versions_of d.parts 0))) [
        | inl meet ↦
            let both = met other.versions (versions_of d.parts 0) meet
            in let has = owner d.parts 0 both.0 both.2
            in absurd (omega (arith, no_zero, subst (λ n. 1 ≤ id_times d.parts n) has.2 (some_id d.parts has.0 has.1)))
        | inr apart ↦ apart
      ]

  module _ (versions : List ℕ) (later : List (List ℕ)) (other : Target) (is : IsIn (targets_of d later) other) where
    apart_from_best : (wanted : List Rec) (best : ℕ × ℕ) → Goes wanted versions later d.parts best.0 → meets other.versions (versions_of d.parts best.0) ≡ false
    apart_from_best wanted best goes =
        ap (λ n. meets other.versions (versions_of d.parts n)) (sym goes.2)
        ∙ ap (meets other.versions) (found d.parts goes.0 (once goes.0.id) goes.1)
        ∙ none_meets d later goes.0.versions
        (unless (list_any (λ o. meets o goes.0.versions) later)
        (right_true (meets versions goes.0.versions) (not (list_any (λ o. meets o goes.0.versions) later)) goes.3)) other is

    apart_from_source : (wanted : List Rec) (size : ℕ) (best : Option (ℕ × ℕ)) → cheapest wanted versions later d.parts ≡ best
        → meets other.versions (versions_of d.parts (source_of size best)) ≡ false
    apart_from_source wanted size None e = apart_from_none other
    apart_from_source wanted size (Some best) e = by (nat_lt best.1 size)
      where
        by : (t : Bool) → meets other.versions (versions_of d.parts (if t then best.0 else 0)) ≡ false
        by true = apart_from_best wanted best (cheapest_goes wanted versions later d.parts best e)
        by false = apart_from_none other

  targets_sourced : (parts : List (List ℕ)) → AllSourced d (targets_of d parts)
  targets_sourced [] = tt
  targets_sourced (versions ∷ later) = (
    record {
      ascend = places_ascend (records_in d.cvd versions) 0 (pieces_of d.parts (target_of d versions later).source);
      last = λ other is. apart_from_source versions later other is (records_in d.cvd versions) (length (records_in d.cvd versions))
          (cheapest (records_in d.cvd versions) versions later d.parts) refl;
    },
    targets_sourced later,
  )

planned_sourced : (p q : ℕ) (d : Dataset) → IsPlaced d → HasPieces d → PlanIsSourced (planned p q d) (planned p q d).plan
planned_sourced p q d placed pieces =
    let ts : List Target = targets_of d (parts_at d p q)
    in subst (AllSourced (planned p q d)) (sym (all_from ts))
    (sourced_still d (planned p q d) ts (λ id vid there. inl there) (targets_sourced d placed.ids_once pieces.no_zero (parts_at d p q)))

-- ---- a copy

copied_sourced : (d : Dataset) (plan : Option Plan) → PlanIsSourced d plan → PlanIsSourced (record d { plan = copied_for d plan }) (copied_for d plan)
copied_sourced d None is = tt
copied_sourced d (Some plan) is = sourced_still d (record d { plan = copied_for d (Some plan) }) (targets_from plan.at plan.targets) (λ id vid there. inl there) is

-- ---- a version more

-- in a dataset whose plan is as it was
plan_still : (d after : Dataset) (plan : Option Plan) → ((id vid : ℕ) → is_one (versions_of after.parts id) vid ≡ true → (is_one (versions_of d.parts id) vid ≡ true) ⊎ (is_unmoved plan vid ≡ false))
    → PlanIsSourced d plan → PlanIsSourced after plan
plan_still d after None narrow is = tt
plan_still d after (Some plan) narrow is = sourced_still d after (targets_from plan.at plan.targets) narrow is

one_of : (v vid : ℕ) → is_one (v ∷ []) vid ≡ true → v ≡ vid
one_of v vid e = by (v == vid) refl e
  where
    by : (t : Bool) → (v == vid) ≡ t → (t || false) ≡ true → v ≡ vid
    by true same f = eqb-true v vid same
    by false same f = cc

one_more : (versions : List ℕ) (next vid : ℕ) → is_one (versions ++ next ∷ []) vid ≡ true → (is_one versions vid ≡ true) ⊎ (next ≡ vid)
one_more [] next vid e = inr (one_of next vid e)
one_more (v ∷ versions) next vid e = by (v == vid) (one_more versions next vid) e
  where
    by : (t : Bool) → (is_one (versions ++ next ∷ []) vid ≡ true → (is_one versions vid ≡ true) ⊎ (next ≡ vid)) → (t || is_one (versions ++ next ∷ []) vid) ≡ true
        → ((t || is_one versions vid) ≡ true) ⊎ (next ≡ vid)
    by true more f = inl refl
    by false more f = more f

-- what a version more brings to partitions
module _ (parts : List Part) (once : (id : ℕ) → id_times parts id ≤ 1) (next vid_next : ℕ) (rs : List Rec) where
  abbrev Brings : ℕ → ℕ → Type 0
  Brings id vid = (is_one (versions_of parts id) vid ≡ true) ⊎ (vid_next ≡ vid)

  joined_brings : (t : Bool) (x : Part) (id vid : ℕ) → IsIn parts x → (if t then with_joined vid_next rs x else x).id ≡ id
      → is_one (if t then with_joined vid_next rs x else x).versions vid ≡ true → Brings id vid
  joined_brings true x id vid is same there =
      elim (one_more x.versions vid_next vid there) [
        | inl was ↦ inl (served parts x id vid once is same was)
        | inr new ↦ inr new
      ]
  joined_brings false x id vid is same there = inl (served parts x id vid once is same there)

  placed_brings : (place : Place) (id vid : ℕ) → is_one (versions_of (parts_with place next vid_next rs parts) id) vid ≡ true → Brings id vid
  placed_brings Own id vid there =
      let has = owner (parts ++ own_part next vid_next rs ∷ []) id vid there
      in elim (in_append parts (own_part next vid_next rs ∷ []) has.0 has.1) [
        | inl before ↦ inl (served parts has.0 id vid once before has.2 has.3)
        | inr last ↦
            elim last [
              | inl same ↦ inr (one_of vid_next vid ((λ i. is_one (sym same i).versions vid) ∙ has.3))
              | inr none ↦ absurd none
            ]
      ]
  placed_brings (Join at) id vid there =
      let has = owner (map (λ x. if x.id == at then with_joined vid_next rs x else x) parts) id vid there
      in let from = in_map (λ x. if x.id == at then with_joined vid_next rs x else x) parts has.0 has.1
      in joined_brings (from.0.id == at) from.0 id vid from.1 ((λ i. (sym from.2 i).id) ∙ has.2) ((λ i. is_one (sym from.2 i).versions vid) ∙ has.3)

version_sourced : (v : Version) (d : Dataset) → IsPlaced d → PlanIsSourced d d.plan → PlanIsSourced (with_version v d) (with_version v d).plan
version_sourced v d placed is =
    plan_still d (with_version v d) d.plan
    (λ id vid there.
    elim (placed_brings d.parts placed.ids_once d.next_part (length d.cvd.versions + 1) (ordered_records d.cvd.versions v) (placed_at d v) id vid there) [
      | inl was ↦ inl was
      | inr new ↦ inr (subst (λ n. is_unmoved d.plan n ≡ false) new (moved_past (length d.cvd.versions) d.plan (length d.cvd.versions + 1) placed.targets (omega arith)))
    ]) is

-- with columns more
wide_versions : (count : ℕ) (parts : List Part) (id : ℕ) → versions_of (map (wide_part count) parts) id ≡ versions_of parts id
wide_versions count [] id = refl
wide_versions count (part ∷ parts) id = ap (λ later. if part.id == id then part.versions else later) (wide_versions count parts id)

wide_by : (count : ℕ) (d after : Dataset) (plan : Option Plan) → after.parts ≡ map (wide_part count) d.parts → PlanIsSourced d plan → PlanIsSourced after (wide_plan count plan)
wide_by count d after None same is = tt
wide_by count d after (Some plan) same is =
    sourced_still d after (targets_from plan.at plan.targets)
    (λ id vid there. inl (ap (λ versions. is_one versions vid) (sym (wide_versions count d.parts id)) ∙ ap (λ parts. is_one (versions_of parts id) vid) (sym same) ∙ there)) is

wide_sourced : (added : List Column) (d : Dataset) → PlanIsSourced d d.plan → PlanIsSourced (wide added d) (wide added d).plan
wide_sourced [] d is = is
wide_sourced (column ∷ added) d is = wide_by (length (column ∷ added)) d (wide (column ∷ added) d) d.plan refl is

commit_sourced : (parents message : List ℕ) (added : List Column) (rows : List Row) (d : Dataset) → IsPlaced d → PlanIsSourced d d.plan
    → PlanIsSourced (committed parents message added rows d) (committed parents message added rows d).plan
commit_sourced parents message added rows d placed is = version_sourced (version_of parents message rows) (wide added d) (wide_placed added d placed) (wide_sourced added d is)

-- ---- a flip

module _ (d : Dataset) (plan : Plan) (runs : IsRunning plan) where
  abbrev moving : List ℕ
  moving = (current plan).versions

  abbrev later : List Target
  later = targets_from (suc plan.at) plan.targets

  -- a version of the current target is in no later one
  not_later : (vid : ℕ) → is_one moving vid ≡ true → Waits later vid ≡ false
  not_later vid there =
      waits_not later vid
      (omega (
        arith,
        ap (λ ts. target_times ts vid) (from_at plan.at plan.targets runs.waits),
        listed moving vid there,
        from_fewer plan.at plan.targets vid,
        runs.once vid,
      ))

  flip_narrows : ((id : ℕ) → id_times d.parts id ≤ 1) → Narrows d.parts (flipped_by d (Some plan)).parts later
  flip_narrows once id vid there =
      let has = owner (flipped_by d (Some plan)).parts id vid there
      in elim (in_append (left_parts moving d.parts) (target_part d plan ∷ []) has.0 has.1) [
        | inl before ↦
            let full = in_filter (λ x. not (length x.versions == 0)) (map (leaving moving) d.parts) has.0 before
            in let from = in_map (leaving moving) d.parts has.0 full.0
            in let stays : is_one (leaving moving from.0).versions vid ≡ true = (λ i. is_one (sym from.2 i).versions vid) ∙ has.3
            in let was : 1 ≤ times from.0.versions vid =
            omega (arith, listed (leaving moving from.0).versions vid stays, filter_times (λ v. not (is_one moving v)) from.0.versions vid)
            in inl (served d.parts from.0 id vid once from.1 ((λ i. (sym from.2 i).id) ∙ has.2) (is_listed from.0.versions vid was))
        | inr last ↦
            elim last [
              | inl own ↦ inr (not_later vid ((λ i. is_one (sym own i).versions vid) ∙ has.3))
              | inr none ↦ absurd none
            ]
      ]

  next_sourced : (t : Bool) → ((id : ℕ) → id_times d.parts id ≤ 1) → AllSourced d (targets_from plan.at plan.targets)
      → PlanIsSourced (flipped_by d (Some plan)) (if t then Some (record plan { at = plan.at + 1; copied = [] }) else None)
  next_sourced false once are = tt
  next_sourced true once are =
      let next : suc plan.at ≡ plan.at + 1 = omega arith
      in subst (λ k. AllSourced (flipped_by d (Some plan)) (targets_from k plan.targets)) next
      (sourced_still d (flipped_by d (Some plan)) later (flip_narrows once) (subst (AllSourced d) (from_at plan.at plan.targets runs.waits) are).1)

flip_sourced : (d : Dataset) (plan : Option Plan) → d.plan ≡ plan → IsPlaced d → IsOldOrNew d → PlanIsSourced d plan → PlanIsSourced (flipped_by d plan) (flipped_by d plan).plan
flip_sourced d None e placed old is = subst (PlanIsSourced d) (sym e) tt
flip_sourced d (Some plan) e placed old is =
    next_sourced d plan (subst Runs e old.runs) (nat_lt (plan.at + 1) (length plan.targets)) placed.ids_once is

-- ---- Worlds

abbrev Sourced : Dataset → Type 0
Sourced d = PlanIsSourced d d.plan

sourced-append : (a b : List Dataset) → AreSourced a → AreSourced b → AreSourced (a ++ b)
sourced-append [] b are more = more
sourced-append (d ∷ a) b are more = (are.0, sourced-append a b are.1 more)

sourced_if : (t : Bool) (d : Dataset) (sets : List Dataset) → Sourced d → AreSourced sets → AreSourced (if t then d ∷ sets else sets)
sourced_if true d sets is are = (is, are)
sourced_if false d sets is are = are

sourced-filter : (test : Dataset → Bool) (sets : List Dataset) → AreSourced sets → AreSourced (filter test sets)
sourced-filter test [] are = tt
sourced-filter test (d ∷ sets) are = sourced_if (test d) d (filter test sets) are.0 (sourced-filter test sets are.1)

change_if : (t : Bool) (f : Dataset → Dataset) (d : Dataset) → Sourced (f d) → Sourced d → Sourced (if t then f d else d)
change_if true f d more is = more
change_if false f d more is = is

sourced_changed : (cvd : ℕ) (f : Dataset → Dataset) (sets : List Dataset) → ((d : Dataset) → IsPlaced d → IsOldOrNew d → HasPieces d → Sourced d → Sourced (f d))
    → ArePlaced sets → AreOldOrNew sets → ArePieces sets → AreSourced sets → AreSourced (change cvd f sets)
sourced_changed cvd f [] more placed old pieces are = tt
sourced_changed cvd f (d ∷ sets) more placed old pieces are =
    (change_if (numbered cvd d) f d (more d placed.0 old.0 pieces.0 are.0) are.0, sourced_changed cvd f sets more placed.1 old.1 pieces.1 are.1)

pub moved_sourced : (m : Move) (w : World) → IsDue m w → IsSound w → AreOldOrNew w.sets → AreSourced w.sets → AreSourced (moved m w).sets
moved_sourced (Init name schema rows) w due sound old are = sourced-append w.sets (new_set w.next name schema rows ∷ []) are (tt, tt)
moved_sourced (Commit cvd parents message added rows) w due sound old are =
    sourced_changed cvd (committed parents message added rows) w.sets (λ d placed was pieces is. commit_sourced parents message added rows d placed is) sound.placed old sound.pieces are
moved_sourced (BeginPlan cvd p q) w due sound old are =
    sourced_changed cvd (planned p q) w.sets (λ d placed was pieces is. planned_sourced p q d placed pieces) sound.placed old sound.pieces are
moved_sourced (Copy cvd) w due sound old are =
    sourced_changed cvd copied_more w.sets (λ d placed was pieces is. copied_sourced d d.plan is) sound.placed old sound.pieces are
moved_sourced (Flip cvd) w due sound old are =
    sourced_changed cvd flipped w.sets (λ d placed was pieces is. flip_sourced d d.plan refl placed was is) sound.placed old sound.pieces are
moved_sourced (Drop cvd) w due sound old are = sourced-filter (λ d. not (numbered cvd d)) w.sets are
moved_sourced Checkpoint w due sound old are = are

-- ---- the flip empties its source

in_waiting : (ts : List Target) (vid : ℕ) → Waits ts vid ≡ true → (other : Target) × IsIn ts other × (is_one other.versions vid ≡ true)
in_waiting [] vid e = cc
in_waiting (t ∷ ts) vid e = by (is_one t.versions vid) refl (in_waiting ts vid) e
  where
    by : (u : Bool) → is_one t.versions vid ≡ u → (Waits ts vid ≡ true → (other : Target) × IsIn ts other × (is_one other.versions vid ≡ true)) → (u || Waits ts vid) ≡ true
        → (other : Target) × IsIn (t ∷ ts) other × (is_one other.versions vid ≡ true)
    by true here more f = (t, inl refl, here)
    by false here more f = let found = more f in (found.0, inr found.1, found.2)

module _ (d : Dataset) (plan : Plan) (placed : IsPlaced d) (old : IsOldOrNew d) (pieces : HasPieces d) (e : d.plan ≡ Some plan) (is : PlanIsSourced d d.plan) where
  running : IsRunning plan
  running = subst Runs e old.runs

  pub own_sourced : IsSourced d (current plan) (targets_from (suc plan.at) plan.targets)
  own_sourced = (subst (AllSourced d) (from_at plan.at plan.targets running.waits) (subst (PlanIsSourced d) e is)).0

  own_serves : (current plan).kept ≢ [] → meets (current plan).versions (versions_of d.parts (current plan).source) ≡ true
  own_serves some =
      elim (current_kept d plan (subst (PlanIsUnderWay d) e pieces.plan).kept).serves [
        | inl none ↦ absurd (some none)
        | inr serves ↦ serves
      ]

  waits_now : (vid : ℕ) → is_unmoved (Some plan) vid ≡ (is_one (current plan).versions vid || Waits (targets_from (suc plan.at) plan.targets) vid)
  waits_now vid = ap (λ ts. Waits ts vid) (from_at plan.at plan.targets running.waits)

  or_left : (a b : Bool) → a ≡ true → (a || b) ≡ true
  or_left true b f = refl
  or_left false b f = cc

  source_waits : (part : Part) → IsIn d.parts part → part.id ≡ (current plan).source → (current plan).kept ≢ [] → IsOld (Some plan) part
  source_waits part there same some =
      let both = met (current plan).versions (versions_of d.parts (current plan).source) (own_serves some)
      in let has : is_one part.versions both.0 ≡ true =
      ap (λ versions. is_one versions both.0) (sym (found d.parts part (placed.ids_once part.id) there)) ∙ ap (λ n. is_one (versions_of d.parts n) both.0) same ∙ both.2
      in elim (old.either part there) [
        | inl waits ↦ subst (λ p. IsOld p part) e waits
        | inr new ↦
            clash (sym (waits_now both.0 ∙ or_left (is_one (current plan).versions both.0) (Waits (targets_from (suc plan.at) plan.targets) both.0) both.1)
            ∙ ap (λ p. is_unmoved p both.0) (sym e) ∙ new.moved both.0 (listed part.versions both.0 has))
      ]

  pub emptied : (current plan).kept ≢ [] → (part : Part) → IsIn d.parts part → part.id ≡ (current plan).source → (vid : ℕ) → 1 ≤ times part.versions vid → 1 ≤ times (current plan).versions vid
  emptied some part there same vid serves = by (is_one (current plan).versions vid) refl (sym (waits_now vid) ∙ source_waits part there same some vid serves)
    where
      by : (t : Bool) → is_one (current plan).versions vid ≡ t → (t || Waits (targets_from (suc plan.at) plan.targets) vid) ≡ true → 1 ≤ times (current plan).versions vid
      by true here f = listed (current plan).versions vid here
      by false here f =
          let other = in_waiting (targets_from (suc plan.at) plan.targets) vid f
          in let has : is_one (versions_of d.parts (current plan).source) vid ≡ true =
          served d.parts part (current plan).source vid placed.ids_once there same (is_listed part.versions vid serves)
          in clash (sym (meeting other.0.versions (versions_of d.parts (current plan).source) vid other.2 has) ∙ own_sourced.last other.0 other.1)
