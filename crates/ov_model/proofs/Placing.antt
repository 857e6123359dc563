-- Each version stays in exactly one partition.
use Rattle.std.proofs.Common.{◌≡◌, ◌≤◌, ◌<◌, ℕ, zero, suc, ◌+◌, Bool, true, false, ◌==◌, List, [], ◌∷◌, ◌++◌, length, map, filter, refl, sym, ◌∙◌, ap, subst, inl, inr, arith}
use Rattle.std.specs.Prelude.{◌≢◌, if◌then◌else◌, not, ◌||◌, nat_lt, slice_index_or, Option, Some, None}
use Rattle.std.proofs.lemmas.List.{length-append, length-map}
use Rattle.std.proofs.lemmas.Bool.{cases_Bool, eqb-true, eq-eqb, ltb-true, ltb-false}
use Rattle.ov_graph.specs.Splits.{Cuts, whole, cut, cuts_within, cuts_of, leaves, next_cut_of, upper, lower, in_order, first_of, is_under}
use Rattle.ov_graph.specs.Trees.{VersionTree, vids, tree_of}
use Rattle.ov_graph.specs.Versions.{heaviest, reduced}
use Rattle.ov_place.specs.Placement.{is_budgeted}
use Rattle.ov_place.specs.declared.place_facts.Place.{Place}
use Rattle.ov_place.specs.declared.place_facts.Place.TheVariants.{Own, Join}
use Rattle.ov_value.specs.declared.column.Column.{Column}
use Rattle.ov_value.specs.Shapes.{Shape}
use Rattle.ov_model.specs.Book.{Row, Version}
use Rattle.ov_model.specs.Moves.{Move, Init, Commit, BeginPlan, Copy, Flip, Drop, Checkpoint, moved, change, numbered, committed, with_version, version_of, wide, wide_part, wide_plan, wide_version, facts_of, tree_edge_of, parts_with, next_with, with_joined, own_part, new_set}
use Rattle.ov_model.specs.Placed.{times, part_times, id_times, AreVersions, TargetsAre, PlanIs, IsPlaced, ArePlaced, AreThere, HasParents, AllHaveParents, NamesParents}
use Rattle.ov_model.specs.Plans.{graph_of, nodes_of_set, parts_at, targets_of, planned, current, no_target, copied_for, copied_more, left_parts, target_part, flipped_by, flipped}
use Rattle.ov_model.specs.Records.{Rec, recs, records_of, ordered_records, of_version, weight, weights}
use Rattle.ov_model.specs.World.{Part, Target, Plan, Dataset, World, is_one, part_of, stored, is_unmoved}
use Rattle.ov_model.proofs.Counting.{one_if, one_most, one_same, one_other, filter_versions, listed, not_listed, range_versions, times-append, parts-append, ids-append, left_ids, left_gone, left_stays}

-- ---- what a plan's targets are

abbrev All : ℕ → List (List ℕ) → Type 0
All count [] = Unit {0}
All count (vs ∷ vss) = AreVersions count vs × All count vss

all-append : (count : ℕ) (a b : List (List ℕ)) → All count a → All count b → All count (a ++ b)
all-append count [] b are more = more
all-append count (vs ∷ a) b are more = (are.0, all-append count a b are.1 more)

all_if : (count : ℕ) (t : Bool) (vs : List ℕ) (vss : List (List ℕ)) → AreVersions count vs → All count vss → All count (if t then vs ∷ vss else vss)
all_if count true vs vss is are = (is, are)
all_if count false vs vss is are = are

all-filter : (count : ℕ) (p : List ℕ → Bool) (vss : List (List ℕ)) → All count vss → All count (filter p vss)
all-filter count p [] are = tt
all-filter count p (vs ∷ vss) are = all_if count (p vs) vs (filter p vss) are.0 (all-filter count p vss are.1)

all_in_order : (count : ℕ) (keys : List ℕ) (vss : List (List ℕ)) → All count vss → All count (in_order first_of keys vss)
all_in_order count [] vss are = tt
all_in_order count (k ∷ keys) vss are =
    all-append count (filter (λ item. first_of item == k) vss) (in_order first_of keys vss)
    (all-filter count (λ item. first_of item == k) vss are) (all_in_order count keys vss are)

all_leaves : (levels count : ℕ) (tree : VersionTree) (p q : ℕ) (part : List ℕ) → AreVersions count part → All count (leaves (cuts_within levels tree p q part))
unfolding cuts_within
all_leaves zero count tree p q part are = (are, tt)
all_leaves (suc levels) count tree p q part are =
    elim (next_cut_of tree p q part) as (λ o. All count (leaves (elim o as (λ _. Cuts) [
      | None ↦ whole part
      | Some vid ↦ cut vid (cuts_within levels tree p q (upper tree vid part)) (cuts_within levels tree p q (lower tree vid part))
    ]))) [
      | None ↦ (are, tt)
      | Some vid ↦
          all-append count (leaves (cuts_within levels tree p q (upper tree vid part))) (leaves (cuts_within levels tree p q (lower tree vid part)))
          (all_leaves levels count tree p q (upper tree vid part) (filter_versions (λ version. not (is_under tree vid version)) count part are))
          (all_leaves levels count tree p q (lower tree vid part) (filter_versions (λ version. is_under tree vid version) count part are))
    ]

reduced_long : (vs : List Version) (done : List (List Rec)) → length (reduced (graph_of vs done)) ≡ length vs
reduced_long [] done = refl
reduced_long (v ∷ vs) done = ap (λ n. suc n) (reduced_long vs (done ++ records_of v done ∷ []))

all_parts : (d : Dataset) (p q : ℕ) → All (length d.cvd.versions) (parts_at d p q)
unfolding cuts_of
all_parts d p q =
    let size : ℕ = length (nodes_of_set d)
    in subst (λ count. All count (parts_at d p q)) (reduced_long d.cvd.versions [])
    (all_in_order size (vids size) (leaves (cuts_of (tree_of (nodes_of_set d)) p q (vids size)))
    (all_leaves (length (vids size)) size (tree_of (nodes_of_set d)) p q (vids size) (range_versions size)))

targets_are : (d : Dataset) (count : ℕ) (parts : List (List ℕ)) → All count parts → TargetsAre count (targets_of d parts)
targets_are d count [] are = tt
targets_are d count (vs ∷ parts) are = (are.0, targets_are d count parts are.1)

no_versions : (count : ℕ) → AreVersions count []
no_versions count = record { once = λ vid. omega arith; from_one = λ vid some. absurd (omega (arith, some)); there = λ vid some. absurd (omega (arith, some)) }

pub target_at : (count : ℕ) (ts : List Target) (k : ℕ) → TargetsAre count ts → AreVersions count (slice_index_or ts k no_target).versions
target_at count [] k are = no_versions count
target_at count (t ∷ ts) zero are = are.0
target_at count (t ∷ ts) (suc k) are = target_at count ts k are.1

more_versions : (n m : ℕ) (vs : List ℕ) → n ≤ m → AreVersions n vs → AreVersions m vs
more_versions n m vs le are = record { once = are.once; from_one = are.from_one; there = λ vid some. omega (arith, le, are.there vid some) }

more_targets : (n m : ℕ) (ts : List Target) → n ≤ m → TargetsAre n ts → TargetsAre m ts
more_targets n m [] le are = tt
more_targets n m (t ∷ ts) le are = (more_versions n m t.versions le are.0, more_targets n m ts le are.1)

more_plan : (n m : ℕ) (plan : Option Plan) → n ≤ m → PlanIs n plan → PlanIs m plan
more_plan n m None le are = tt
more_plan n m (Some plan) le are = more_targets n m plan.targets le are

-- ---- the steps of a plan

pub planned_placed : (p q : ℕ) (d : Dataset) → IsPlaced d → IsPlaced (planned p q d)
planned_placed p q d is = record {
  each = is.each;
  no_other = is.no_other;
  ids_once = is.ids_once;
  ids_below = is.ids_below;
  targets = targets_are d (length d.cvd.versions) (parts_at d p q) (all_parts d p q);
}

copied_are : (d : Dataset) (count : ℕ) (plan : Option Plan) → PlanIs count plan → PlanIs count (copied_for d plan)
copied_are d count None are = are
copied_are d count (Some plan) are = are

pub copied_placed : (d : Dataset) → IsPlaced d → IsPlaced (copied_more d)
copied_placed d is = record {
  each = is.each;
  no_other = is.no_other;
  ids_once = is.ids_once;
  ids_below = is.ids_below;
  targets = copied_are d (length d.cvd.versions) d.plan is.targets;
}

next_are : (t : Bool) (count : ℕ) (plan : Plan) → TargetsAre count plan.targets → PlanIs count (if t then Some (record plan { at = plan.at + 1; copied = [] }) else None)
next_are true count plan are = are
next_are false count plan are = tt

flip_times : (d : Dataset) (plan : Plan) (vid : ℕ) → part_times (flipped_by d (Some plan)).parts vid ≡ part_times (left_parts (current plan).versions d.parts) vid + times (current plan).versions vid
flip_times d plan vid = omega (arith, parts-append (left_parts (current plan).versions d.parts) (target_part d plan ∷ []) vid)

flip_ids : (d : Dataset) (plan : Plan) (id : ℕ) → id_times (flipped_by d (Some plan)).parts id ≡ id_times (left_parts (current plan).versions d.parts) id + one_if (d.next_part == id)
flip_ids d plan id = omega (arith, ids-append (left_parts (current plan).versions d.parts) (target_part d plan ∷ []) id)

flip_placed : (d : Dataset) (plan : Option Plan) → d.plan ≡ plan → IsPlaced d → IsPlaced (flipped_by d plan)
flip_placed d None e is = is
flip_placed d (Some plan) e is =
    let count : ℕ = length d.cvd.versions
    in let ours : List ℕ = (current plan).versions
    in let targets : TargetsAre count plan.targets = subst (PlanIs count) e is.targets
    in let are : AreVersions count ours = target_at count plan.targets plan.at targets
    in record {
      each = λ vid from to. elim (cases_Bool (is_one ours vid)) [
        | inl taken ↦ omega (arith, flip_times d plan vid, left_gone ours d.parts vid taken, are.once vid, listed ours vid taken)
        | inr other ↦ omega (arith, flip_times d plan vid, left_stays ours d.parts vid other, not_listed ours vid other, is.each vid from to)
      ];
      no_other = λ vid past. elim (cases_Bool (is_one ours vid)) [
        | inl taken ↦ absurd (omega (arith, past, are.there vid (listed ours vid taken)))
        | inr other ↦ omega (arith, flip_times d plan vid, left_stays ours d.parts vid other, not_listed ours vid other, is.no_other vid past)
      ];
      ids_once = λ id. elim (cases_Bool (d.next_part == id)) [
        | inl same ↦
            let next : d.next_part ≡ id = eqb-true d.next_part id same
            in omega (arith, flip_ids d plan id, left_ids ours d.parts id, one_most (d.next_part == id), is.ids_below id (omega (arith, next)))
        | inr other ↦ let none : one_if (d.next_part == id) ≡ 0 = ap one_if other in omega (arith, flip_ids d plan id, left_ids ours d.parts id, none, is.ids_once id)
      ];
      ids_below = λ id past. omega (arith, flip_ids d plan id, left_ids ours d.parts id, one_other d.next_part id (λ same. omega (arith, same, past)), is.ids_below id (omega (arith, past)));
      targets = next_are (nat_lt (plan.at + 1) (length plan.targets)) count plan targets;
    }

pub flipped_placed : (d : Dataset) → IsPlaced d → IsPlaced (flipped d)
flipped_placed d is = flip_placed d d.plan refl is

-- ---- a commit

-- the tree parent is one of the parents
there_if : (t : Bool) (count : ℕ) (edge other : ℕ × ℕ) → (t ≡ true → (1 ≤ other.0) × (other.0 ≤ count)) → (1 ≤ edge.0) × (edge.0 ≤ count) → (1 ≤ (if t then other else edge).0) × ((if t then other else edge).0 ≤ count)
there_if true count edge other is here = is refl
there_if false count edge other is here = here

heaviest_there : (count p : ℕ) (ps : List ℕ) (rs : List Rec) (done : List (List Rec)) → AreThere count (p ∷ ps)
    → (1 ≤ (heaviest (weights (p ∷ ps) rs done)).0) × ((heaviest (weights (p ∷ ps) rs done)).0 ≤ count)
heaviest_there count p [] rs done are =
    there_if (nat_lt (weight rs (of_version done p)) 0) count (p, weight rs (of_version done p)) (0, 0)
    (λ less. absurd (omega (arith, ltb-true (weight rs (of_version done p)) 0 less))) are.0
heaviest_there count p (q ∷ ps) rs done are =
    there_if (nat_lt (weight rs (of_version done p)) (heaviest (weights (q ∷ ps) rs done)).1) count (p, weight rs (of_version done p)) (heaviest (weights (q ∷ ps) rs done))
    (λ less. heaviest_there count q ps rs done are.1) are.0

-- a partition that serves a version has its number
part_if : (t : Bool) (id later : ℕ) (rest : List Part) → (t ≡ false → 1 ≤ id_times rest later)
    → 1 ≤ one_if (id == (if t then id else later)) + id_times rest (if t then id else later)
part_if true id later rest more = omega (arith, one_same id id refl)
part_if false id later rest more = omega (arith, more refl)

part_there : (parts : List Part) (vid : ℕ) → 1 ≤ part_times parts vid → 1 ≤ id_times parts (part_of parts vid)
part_there [] vid some = absurd (omega (arith, some))
part_there (part ∷ parts) vid some =
    part_if (is_one part.versions vid) part.id (part_of parts vid) parts
    (λ other. part_there parts vid (omega (arith, some, not_listed part.versions vid other)))

-- what a version more adds to the partitions of a number
abbrev add_for : List Part → ℕ → ℕ → ℕ
add_for [] id one = 0
add_for (part ∷ parts) id one = (if part.id == id then one else 0) + add_for parts id one

add_if : (t : Bool) (one : ℕ) (part : Part) (vid next : ℕ) (rs : List Rec) → one ≡ one_if (next == vid)
    → times (if t then with_joined next rs part else part).versions vid ≡ times part.versions vid + (if t then one else 0)
add_if true one part vid next rs is = omega (arith, is, times-append part.versions (next ∷ []) vid)
add_if false one part vid next rs is = omega arith

joined_times : (id next : ℕ) (rs : List Rec) (parts : List Part) (vid : ℕ)
    → part_times (map (λ part. if part.id == id then with_joined next rs part else part) parts) vid ≡ part_times parts vid + add_for parts id (one_if (next == vid))
joined_times id next rs [] vid = omega arith
joined_times id next rs (part ∷ parts) vid =
    omega (arith, add_if (part.id == id) (one_if (next == vid)) part vid next rs refl, joined_times id next rs parts vid)

same_id : (t : Bool) (part : Part) (next : ℕ) (rs : List Rec) → (if t then with_joined next rs part else part).id ≡ part.id
same_id true part next rs = refl
same_id false part next rs = refl

joined_ids : (id next : ℕ) (rs : List Rec) (parts : List Part) (other : ℕ) → id_times (map (λ part. if part.id == id then with_joined next rs part else part) parts) other ≡ id_times parts other
joined_ids id next rs [] other = refl
joined_ids id next rs (part ∷ parts) other =
    λ i. one_if (same_id (part.id == id) part next rs i == other) + joined_ids id next rs parts other i

one_or_none : (t : Bool) (one : ℕ) → one_if t ≡ 1 → (if t then one else 0) ≡ one
one_or_none true one e = refl
one_or_none false one e = cc

none_or_one : (t : Bool) (one : ℕ) → one_if t ≡ 0 → (if t then one else 0) ≡ 0
none_or_one true one e = cc
none_or_one false one e = refl

add_none : (parts : List Part) (id one : ℕ) → id_times parts id ≡ 0 → add_for parts id one ≡ 0
add_none [] id one none = refl
add_none (part ∷ parts) id one none =
    omega (arith, none_or_one (part.id == id) one (omega (arith, none)), add_none parts id one (omega (arith, none)))

add_one : (parts : List Part) (id one : ℕ) → id_times parts id ≡ 1 → add_for parts id one ≡ one
add_one [] id one once = absurd (omega (arith, once))
add_one (part ∷ parts) id one once =
    elim (cases_Bool (part.id == id)) [
      | inl same ↦
          let here : one_if (part.id == id) ≡ 1 = ap one_if same
          in omega (arith, one_or_none (part.id == id) one here, add_none parts id one (omega (arith, once, here)))
      | inr other ↦
          let none : one_if (part.id == id) ≡ 0 = ap one_if other
          in omega (arith, none_or_one (part.id == id) one none, add_one parts id one (omega (arith, once, none)))
    ]

-- with a version more, in a partition of its own or in one that is there
module _ (v : Version) (d : Dataset) (is : IsPlaced d) where
  abbrev count : ℕ
  count = length d.cvd.versions

  abbrev ours : List Rec
  ours = ordered_records d.cvd.versions v

  longer : length (d.cvd.versions ++ v ∷ []) ≡ count + 1
  longer = length-append d.cvd.versions (v ∷ [])

  abbrev WithPlace : Place → Type 0
  WithPlace place = IsPlaced (record d {
    cvd = record d.cvd { versions = d.cvd.versions ++ v ∷ [] };
    parts = parts_with place d.next_part (count + 1) ours d.parts;
    next_part = next_with place d.next_part;
  })

  own_times : (vid : ℕ) → part_times (d.parts ++ own_part d.next_part (count + 1) ours ∷ []) vid ≡ part_times d.parts vid + one_if (count + 1 == vid)
  own_times vid = omega (arith, parts-append d.parts (own_part d.next_part (count + 1) ours ∷ []) vid)

  own_ids : (id : ℕ) → id_times (d.parts ++ own_part d.next_part (count + 1) ours ∷ []) id ≡ id_times d.parts id + one_if (d.next_part == id)
  own_ids id = omega (arith, ids-append d.parts (own_part d.next_part (count + 1) ours ∷ []) id)

  not_new : (vid : ℕ) → count + 1 ≢ vid → vid ≤ length (d.cvd.versions ++ v ∷ []) → vid ≤ count
  not_new vid old to =
      elim (cases_Bool (nat_lt count vid)) [
        | inl past ↦ absurd (old (omega (arith, ltb-true count vid past, longer, to)))
        | inr within ↦ ltb-false count vid within
      ]

  -- one more at the new version, and nothing at any other
  each_more : (vid n : ℕ) → n ≡ part_times d.parts vid + one_if (count + 1 == vid) → 1 ≤ vid → vid ≤ length (d.cvd.versions ++ v ∷ []) → n ≡ 1
  each_more vid n is_n from to =
      elim (cases_Bool (count + 1 == vid)) [
        | inl same ↦
            let new : count + 1 ≡ vid = eqb-true (count + 1) vid same
            in let one : one_if (count + 1 == vid) ≡ 1 = ap one_if same
            in omega (arith, is_n, one, is.no_other vid (omega (arith, new)))
        | inr other ↦
            let none : one_if (count + 1 == vid) ≡ 0 = ap one_if other
            in omega (arith, is_n, none, is.each vid from (not_new vid (λ e. off (sym other ∙ eq-eqb (count + 1) vid e)) to))
      ]
    where
      off : false ≡ true → ⊥
      off e = cc

  none_more : (vid n : ℕ) → n ≡ part_times d.parts vid + one_if (count + 1 == vid) → length (d.cvd.versions ++ v ∷ []) < vid → n ≡ 0
  none_more vid n is_n past =
      omega (arith, is_n, one_other (count + 1) vid (λ e. omega (arith, e, longer, past)), is.no_other vid (omega (arith, longer, past)))

  targets_more : PlanIs (length (d.cvd.versions ++ v ∷ [])) d.plan
  targets_more = more_plan count (length (d.cvd.versions ++ v ∷ [])) d.plan (omega (arith, longer)) is.targets

  own_placed : WithPlace Own
  own_placed = record {
    each = λ vid from to. each_more vid _ (own_times vid) from to;
    no_other = λ vid past. none_more vid _ (own_times vid) past;
    ids_once = λ id. elim (cases_Bool (d.next_part == id)) [
      | inl same ↦
          let next : d.next_part ≡ id = eqb-true d.next_part id same
          in omega (arith, own_ids id, one_most (d.next_part == id), is.ids_below id (omega (arith, next)))
      | inr other ↦ let none : one_if (d.next_part == id) ≡ 0 = ap one_if other in omega (arith, own_ids id, none, is.ids_once id)
    ];
    ids_below = λ id past. omega (arith, own_ids id, one_other d.next_part id (λ e. omega (arith, e, past)), is.ids_below id (omega (arith, past)));
    targets = targets_more;
  }

  join_times : (id : ℕ) → 1 ≤ id_times d.parts id → (vid : ℕ)
      → part_times (map (λ part. if part.id == id then with_joined (count + 1) ours part else part) d.parts) vid ≡ part_times d.parts vid + one_if (count + 1 == vid)
  join_times id some vid =
      omega (arith, joined_times id (count + 1) ours d.parts vid, add_one d.parts id (one_if (count + 1 == vid)) (omega (arith, some, is.ids_once id)))

  join_placed : (id : ℕ) → 1 ≤ id_times d.parts id → WithPlace (Join id)
  join_placed id some = record {
    each = λ vid from to. each_more vid _ (join_times id some vid) from to;
    no_other = λ vid past. none_more vid _ (join_times id some vid) past;
    ids_once = λ other. omega (arith, joined_ids id (count + 1) ours d.parts other, is.ids_once other);
    ids_below = λ other past. omega (arith, joined_ids id (count + 1) ours d.parts other, is.ids_below other past);
    targets = targets_more;
  }

  place_if : (t : Bool) (id : ℕ) → 1 ≤ id_times d.parts id → WithPlace (if t then Own else Join id)
  place_if true id some = own_placed
  place_if false id some = join_placed id some

  -- with parents that are there
  with_placed : (p : ℕ) (ps : List ℕ) → v.parents ≡ p ∷ ps → AreThere count (p ∷ ps) → IsPlaced (with_version v d)
  with_placed p ps e are =
      let edge : ℕ × ℕ = tree_edge_of d v
      in let rs : List Rec = records_of v (recs d.cvd.versions [])
      in let there : (1 ≤ edge.0) × (edge.0 ≤ count) =
      subst (λ parents. (1 ≤ (heaviest (weights parents rs (recs d.cvd.versions []))).0) × ((heaviest (weights parents rs (recs d.cvd.versions []))).0 ≤ count)) (sym e)
      (heaviest_there count p ps rs (recs d.cvd.versions []) are)
      in let some : 1 ≤ part_times d.parts edge.0 = omega (arith, is.each edge.0 there.0 there.1)
      in place_if (is_unmoved d.plan edge.0 || is_budgeted d.threshold edge.1 (facts_of d edge).records (stored d)) (part_of d.parts edge.0) (part_there d.parts edge.0 some)

-- with columns more
wide_times : (n : ℕ) (parts : List Part) (vid : ℕ) → part_times (map (wide_part n) parts) vid ≡ part_times parts vid
wide_times n [] vid = refl
wide_times n (part ∷ parts) vid = ap (λ k. times part.versions vid + k) (wide_times n parts vid)

wide_ids : (n : ℕ) (parts : List Part) (id : ℕ) → id_times (map (wide_part n) parts) id ≡ id_times parts id
wide_ids n [] id = refl
wide_ids n (part ∷ parts) id = ap (λ k. one_if (part.id == id) + k) (wide_ids n parts id)

wide_targets : (n most : ℕ) (plan : Option Plan) → PlanIs most plan → PlanIs most (wide_plan n plan)
wide_targets n most None are = tt
wide_targets n most (Some plan) are = are

wide_placed : (added : List Column) (d : Dataset) → IsPlaced d → IsPlaced (wide added d)
wide_placed [] d is = is
wide_placed (column ∷ added) d is =
    let n : ℕ = length (column ∷ added)
    in let same : length (map (wide_version n) d.cvd.versions) ≡ length d.cvd.versions = length-map d.cvd.versions (wide_version n)
    in record {
      each = λ vid from to. wide_times n d.parts vid ∙ is.each vid from (omega (arith, same, to));
      no_other = λ vid past. wide_times n d.parts vid ∙ is.no_other vid (omega (arith, same, past));
      ids_once = λ id. omega (arith, wide_ids n d.parts id, is.ids_once id);
      ids_below = λ id past. wide_ids n d.parts id ∙ is.ids_below id past;
      targets = wide_targets n (length (map (wide_version n) d.cvd.versions)) d.plan (subst (λ k. PlanIs k d.plan) (sym same) is.targets);
    }

wide_long : (added : List Column) (d : Dataset) → length (wide added d).cvd.versions ≡ length d.cvd.versions
wide_long [] d = refl
wide_long (column ∷ added) d = length-map d.cvd.versions (wide_version (length (column ∷ added)))

commit_placed : (parents message : List ℕ) (added : List Column) (rows : List Row) (d : Dataset) → IsPlaced d → HasParents parents d → IsPlaced (committed parents message added rows d)
commit_placed [] message added rows d is has = absurd (has.0 refl)
commit_placed (p ∷ ps) message added rows d is has =
    with_placed (version_of (p ∷ ps) message rows) (wide added d) (wide_placed added d is) p ps refl
    (subst (λ n. AreThere n (p ∷ ps)) (sym (wide_long added d)) has.1)

-- ---- Worlds

new_placed : (number : ℕ) (name : List ℕ) (schema : Shape) (rows : List Row) → IsPlaced (new_set number name schema rows)
new_placed number name schema rows = record {
  each = λ vid from to. omega (arith, one_same 1 vid (omega (arith, from, to)));
  no_other = λ vid past. omega (arith, one_other 1 vid (λ e. omega (arith, e, past)));
  ids_once = λ id. omega (arith, one_most (1 == id));
  ids_below = λ id past. omega (arith, one_other 1 id (λ e. omega (arith, e, past)));
  targets = tt;
}

are-append : (a b : List Dataset) → ArePlaced a → ArePlaced b → ArePlaced (a ++ b)
are-append [] b are more = more
are-append (d ∷ a) b are more = (are.0, are-append a b are.1 more)

are_if : (t : Bool) (d : Dataset) (sets : List Dataset) → IsPlaced d → ArePlaced sets → ArePlaced (if t then d ∷ sets else sets)
are_if true d sets is are = (is, are)
are_if false d sets is are = are

are-filter : (test : Dataset → Bool) (sets : List Dataset) → ArePlaced sets → ArePlaced (filter test sets)
are-filter test [] are = tt
are-filter test (d ∷ sets) are = are_if (test d) d (filter test sets) are.0 (are-filter test sets are.1)

change_if : (t : Bool) (f : Dataset → Dataset) (d : Dataset) → (t ≡ true → IsPlaced (f d)) → IsPlaced d → IsPlaced (if t then f d else d)
change_if true f d more is = more refl
change_if false f d more is = is

are_changed : (cvd : ℕ) (f : Dataset → Dataset) (sets : List Dataset) → ((d : Dataset) → IsPlaced d → IsPlaced (f d)) → ArePlaced sets → ArePlaced (change cvd f sets)
are_changed cvd f [] more are = tt
are_changed cvd f (d ∷ sets) more are = (change_if (numbered cvd d) f d (λ t. more d are.0) are.0, are_changed cvd f sets more are.1)

are_committed : (cvd : ℕ) (parents message : List ℕ) (added : List Column) (rows : List Row) (sets : List Dataset) → ArePlaced sets → AllHaveParents cvd parents sets
    → ArePlaced (change cvd (committed parents message added rows) sets)
are_committed cvd parents message added rows [] are has = tt
are_committed cvd parents message added rows (d ∷ sets) are has = (
  change_if (numbered cvd d) (committed parents message added rows) d
      (λ t. commit_placed parents message added rows d are.0 (has.0 (eqb-true d.cvd.number cvd t))) are.0,
  are_committed cvd parents message added rows sets are.1 has.1,
)

pub moved_placed : (m : Move) (w : World) → NamesParents m w → ArePlaced w.sets → ArePlaced (moved m w).sets
moved_placed (Init name schema rows) w names are = are-append w.sets (new_set w.next name schema rows ∷ []) are (new_placed w.next name schema rows, tt)
moved_placed (Commit cvd parents message added rows) w names are = are_committed cvd parents message added rows w.sets are names
moved_placed (BeginPlan cvd p q) w names are = are_changed cvd (planned p q) w.sets (planned_placed p q) are
moved_placed (Copy cvd) w names are = are_changed cvd copied_more w.sets copied_placed are
moved_placed (Flip cvd) w names are = are_changed cvd flipped w.sets flipped_placed are
moved_placed (Drop cvd) w names are = are-filter (λ d. not (numbered cvd d)) w.sets are
moved_placed Checkpoint w names are = are
