-- While a plan runs, each partition is old or new, and stays so with every move.
use Rattle.std.proofs.Common.{◌≡◌, ◌≤◌, ◌<◌, ◌⊎◌, ℕ, zero, suc, ◌+◌, Bool, true, false, ◌==◌, List, [], ◌∷◌, ◌++◌, length, map, filter, refl, sym, ◌∙◌, ap, subst, inl, inr, arith}
use Rattle.std.specs.Prelude.{◌≢◌, ◌||◌, nat_lt, slice_index_or, if◌then◌else◌, Option, Some, None}
use Rattle.std.specs.List.{list_any}
use Rattle.std.proofs.lemmas.Bool.{cases_Bool, eqb-true, ltb-true}
use Rattle.ov_graph.specs.Versions.{heaviest}
use Rattle.ov_place.specs.Placement.{is_budgeted}
use Rattle.ov_place.specs.declared.place_facts.Place.TheVariants.{Own, Join}
use Rattle.ov_model.specs.Book.{Version}
use Rattle.ov_model.specs.Lists.{IsIn}
use Rattle.ov_model.specs.Moves.{moved, facts_of, tree_edge_of, placed_at}
use Rattle.ov_model.specs.Placed.{times, part_times, id_times, TargetsAre, PlanIs, IsPlaced, AreThere, HasParents}
use Rattle.ov_model.specs.Plans.{no_target}
use Rattle.ov_model.specs.Records.{Rec, recs, records_of, of_version, weight, weights}
use Rattle.ov_model.specs.World.{Part, Target, Plan, Dataset, is_one, part_of, stored, is_unmoved, targets_from}
use Rattle.ov_model.proofs.Counting.{one_if, one_same, listed, not_listed}
use Rattle.law_partitions.proofs.CountRuns.{all_from, behind}
use Rattle.law_partitions.specs.OldOrNew.{IsOld, IsNew, IsOldOrNew}
use Rattle.law_partitions.specs.Pieces.{target_times}

clash : {X : Type 0} → true ≡ false → X
clash e = cc

-- ---- members of lists

pub in_append : {X : Type 0} (a b : List X) (x : X) → IsIn (a ++ b) x → IsIn a x ⊎ IsIn b x
in_append [] b x is = inr is
in_append (y ∷ a) b x (inl same) = inl (inl same)
in_append (y ∷ a) b x (inr later) =
    elim (in_append a b x later) [
      | inl one ↦ inl (inr one)
      | inr other ↦ inr other
    ]

pub in_map : {X Y : Type 0} (f : X → Y) (xs : List X) (y : Y) → IsIn (map f xs) y → (x : X) × (IsIn xs x) × (y ≡ f x)
in_map f [] y is = absurd is
in_map f (x ∷ xs) y (inl same) = (x, inl refl, same)
in_map f (x ∷ xs) y (inr later) = let more = in_map f xs y later in (more.0, inr more.1, more.2)

filter_if : {X : Type 0} (t : Bool) (p : X → Bool) (y x : X) (xs rest : List X) → p y ≡ t → (IsIn rest x → IsIn xs x × (p x ≡ true)) → IsIn (if t then y ∷ rest else rest) x → IsIn (y ∷ xs) x × (p x ≡ true)
filter_if true p y x xs rest passes later (inl same) = (inl same, ap p same ∙ passes)
filter_if true p y x xs rest passes later (inr is) = let more = later is in (inr more.0, more.1)
filter_if false p y x xs rest passes later is = let more = later is in (inr more.0, more.1)

pub in_filter : {X : Type 0} (p : X → Bool) (xs : List X) (x : X) → IsIn (filter p xs) x → IsIn xs x × (p x ≡ true)
in_filter p [] x is = absurd is
in_filter p (y ∷ xs) x is = filter_if (p y) p y x xs (filter p xs) refl (in_filter p xs x) is

pub single : (x vid : ℕ) → 1 ≤ times (x ∷ []) vid → x ≡ vid
single x vid some =
    elim (cases_Bool (x == vid)) [
      | inl same ↦ eqb-true x vid same
      | inr other ↦ let none : one_if (x == vid) ≡ 0 = ap one_if other in absurd (omega (arith, some, none))
    ]

pub is_listed : (vs : List ℕ) (vid : ℕ) → 1 ≤ times vs vid → is_one vs vid ≡ true
is_listed vs vid some =
    elim (cases_Bool (is_one vs vid)) [
      | inl yes_ ↦ yes_
      | inr none ↦ absurd (omega (arith, some, not_listed vs vid none))
    ]

-- ---- versions that wait

waits_if : (t rest : Bool) (n m : ℕ) → (t ≡ true → 1 ≤ n) → (rest ≡ true → 1 ≤ m) → (t || rest) ≡ true → 1 ≤ n + m
waits_if true rest n m one more e = omega (arith, one refl)
waits_if false rest n m one more e = omega (arith, more e)

stays_if : (t rest : Bool) (n m : ℕ) → (t ≡ false → n ≡ 0) → (rest ≡ false → m ≡ 0) → (t || rest) ≡ false → n + m ≡ 0
stays_if true rest n m one more e = cc
stays_if false rest n m one more e = omega (arith, one refl, more e)

abbrev pub Waits : List Target → ℕ → Bool
Waits ts vid = list_any (λ t. is_one t.versions vid) ts

waiting : (ts : List Target) (vid : ℕ) → Waits ts vid ≡ true → 1 ≤ target_times ts vid
waiting [] vid e = cc
waiting (t ∷ ts) vid e = waits_if (is_one t.versions vid) (Waits ts vid) (times t.versions vid) (target_times ts vid) (listed t.versions vid) (waiting ts vid) e

not_waiting : (ts : List Target) (vid : ℕ) → Waits ts vid ≡ false → target_times ts vid ≡ 0
not_waiting [] vid e = refl
not_waiting (t ∷ ts) vid e = stays_if (is_one t.versions vid) (Waits ts vid) (times t.versions vid) (target_times ts vid) (not_listed t.versions vid) (not_waiting ts vid) e

pub waits : (ts : List Target) (vid : ℕ) → 1 ≤ target_times ts vid → Waits ts vid ≡ true
waits ts vid some =
    elim (cases_Bool (Waits ts vid)) [
      | inl yes_ ↦ yes_
      | inr none ↦ absurd (omega (arith, some, not_waiting ts vid none))
    ]

pub waits_not : (ts : List Target) (vid : ℕ) → target_times ts vid ≡ 0 → Waits ts vid ≡ false
waits_not ts vid none =
    elim (cases_Bool (Waits ts vid)) [
      | inl yes_ ↦ absurd (omega (arith, none, waiting ts vid yes_))
      | inr no_ ↦ no_
    ]

pub from_fewer : (k : ℕ) (ts : List Target) (vid : ℕ) → target_times (targets_from k ts) vid ≤ target_times ts vid
from_fewer k [] vid = omega arith
from_fewer zero (t ∷ ts) vid = let all = ap (λ l. target_times l vid) (all_from (t ∷ ts)) in omega (arith, all)
from_fewer (suc k) (t ∷ ts) vid = let all = ap (λ l. target_times l vid) (behind k t ts) in omega (arith, all, from_fewer k ts vid)

pub in_at : (k : ℕ) (ts : List Target) → k < length ts → IsIn ts (slice_index_or ts k no_target)
in_at k [] low = absurd (omega (arith, low))
in_at zero (t ∷ ts) low = inl refl
in_at (suc k) (t ∷ ts) low = inr (in_at k ts (omega (arith, low)))

-- a version that isn't there doesn't wait
pub targets_past : (count : ℕ) (ts : List Target) (vid : ℕ) → TargetsAre count ts → count < vid → target_times ts vid ≡ 0
targets_past count [] vid are past = refl
targets_past count (t ∷ ts) vid are past =
    elim (cases_Bool (is_one t.versions vid)) [
      | inl has ↦ absurd (omega (arith, past, are.0.there vid (listed t.versions vid has)))
      | inr none ↦ omega (arith, not_listed t.versions vid none, targets_past count ts vid are.1 past)
    ]

pub moved_past : (count : ℕ) (plan : Option Plan) (vid : ℕ) → PlanIs count plan → count < vid → is_unmoved plan vid ≡ false
moved_past count None vid are past = refl
moved_past count (Some plan) vid are past =
    waits_not (targets_from plan.at plan.targets) vid (omega (arith, from_fewer plan.at plan.targets vid, targets_past count plan.targets vid are past))

-- ---- a partition of a version that doesn't wait is new

abbrev pub Either : Option Plan → Part → Type 0
Either plan part = IsOld plan part ⊎ IsNew plan part

new_by : (plan : Option Plan) (part : Part) (vid : ℕ) → Either plan part → 1 ≤ times part.versions vid → is_unmoved plan vid ≡ false → IsNew plan part
new_by plan part vid (inl old) some moved = clash (sym (old vid some) ∙ moved)
new_by plan part vid (inr new) some moved = new

part_if : (t : Bool) (id later : ℕ) (rest : List Part) → (t ≡ false → 1 ≤ id_times rest later)
    → 1 ≤ one_if (id == (if t then id else later)) + id_times rest (if t then id else later)
part_if true id later rest more = omega (arith, one_same id id refl)
part_if false id later rest more = omega (arith, more refl)

part_there : (parts : List Part) (vid : ℕ) → 1 ≤ part_times parts vid → 1 ≤ id_times parts (part_of parts vid)
part_there [] vid some = absurd (omega (arith, some))
part_there (part ∷ parts) vid some =
    part_if (is_one part.versions vid) part.id (part_of parts vid) parts
    (λ other. part_there parts vid (omega (arith, some, not_listed part.versions vid other)))

pub some_id : (parts : List Part) (part : Part) → IsIn parts part → 1 ≤ id_times parts part.id
some_id [] part is = absurd is
some_id (x ∷ parts) part (inl same) = omega (arith, one_same x.id part.id (λ i. (sym same i).id))
some_id (x ∷ parts) part (inr later) = omega (arith, some_id parts part later)

serves_if : (t : Bool) (x : Part) (later : ℕ) (rest : List Part) (vid : ℕ) → (t ≡ true → 1 ≤ times x.versions vid) → (t ≡ false → 1 ≤ id_times rest later)
    → id_times (x ∷ rest) (if t then x.id else later) ≤ 1
    → (t ≡ false → id_times rest later ≤ 1 → (part : Part) → IsIn rest part → part.id ≡ later → 1 ≤ times part.versions vid)
    → (part : Part) → IsIn (x ∷ rest) part → part.id ≡ (if t then x.id else later) → 1 ≤ times part.versions vid
serves_if true x later rest vid here there once more part (inl same) is = subst (λ p. 1 ≤ times p.versions vid) (sym same) (here refl)
serves_if true x later rest vid here there once more part (inr behind) is =
    absurd (omega (arith, once, one_same x.id x.id refl, subst (λ n. 1 ≤ id_times rest n) is (some_id rest part behind)))
serves_if false x later rest vid here there once more part (inl same) is =
    absurd (omega (arith, once, there refl, one_same x.id later ((λ i. (sym same i).id) ∙ is)))
serves_if false x later rest vid here there once more part (inr behind) is = more refl (omega (arith, once)) part behind is

-- the partition of a version's number has the version
serves : (parts : List Part) (vid : ℕ) → 1 ≤ part_times parts vid → id_times parts (part_of parts vid) ≤ 1 → (part : Part) → IsIn parts part → part.id ≡ part_of parts vid → 1 ≤ times part.versions vid
serves [] vid some once part is same = absurd is
serves (x ∷ parts) vid some once part is same =
    let more : is_one x.versions vid ≡ false → 1 ≤ part_times parts vid = λ none. omega (arith, some, not_listed x.versions vid none)
    in serves_if (is_one x.versions vid) x (part_of parts vid) parts vid (listed x.versions vid) (λ none. part_there parts vid (more none)) once
    (λ none later other behind e. serves parts vid (more none) later other behind e) part is same

-- ---- a commit joins a new partition

there_if : (t : Bool) (count : ℕ) (edge other : ℕ × ℕ) → (t ≡ true → (1 ≤ other.0) × (other.0 ≤ count)) → (1 ≤ edge.0) × (edge.0 ≤ count) → (1 ≤ (if t then other else edge).0) × ((if t then other else edge).0 ≤ count)
there_if true count edge other is here = is refl
there_if false count edge other is here = here

heaviest_there : (count p : ℕ) (ps : List ℕ) (rs : List Rec) (done : List (List Rec)) → AreThere count (p ∷ ps)
    → (1 ≤ (heaviest (weights (p ∷ ps) rs done)).0) × ((heaviest (weights (p ∷ ps) rs done)).0 ≤ count)
heaviest_there count p [] rs done are =
    there_if (nat_lt (weight rs (of_version done p)) 0) count (p, weight rs (of_version done p)) (0, 0)
    (λ less. absurd (omega (arith, ltb-true (weight rs (of_version done p)) 0 less))) are.0
heaviest_there count p (q ∷ ps) rs done are =
    there_if (nat_lt (weight rs (of_version done p)) (heaviest (weights (q ∷ ps) rs done)).1) count (p, weight rs (of_version done p)) (heaviest (weights (q ∷ ps) rs done))
    (λ less. heaviest_there count q ps rs done are.1) are.0

parent_there : (count : ℕ) (ps : List ℕ) (rs : List Rec) (done : List (List Rec)) → ps ≢ [] → AreThere count ps → (1 ≤ (heaviest (weights ps rs done)).0) × ((heaviest (weights ps rs done)).0 ≤ count)
parent_there count [] rs done some are = absurd (some refl)
parent_there count (p ∷ ps) rs done some are = heaviest_there count p ps rs done are

same_join : (a b : ℕ) → Join a ≡ Join b → a ≡ b
same_join a b e = cc

joins_if : (t : Bool) (a b : ℕ) → (if t then Own else Join a) ≡ Join b → (t ≡ false) × (a ≡ b)
joins_if true a b e = cc
joins_if false a b e = (refl, same_join a b e)

either_false : (a b : Bool) → (a || b) ≡ false → a ≡ false
either_false true b e = cc
either_false false b e = refl

pub joins_new : (d : Dataset) (v : Version) (id : ℕ) → IsPlaced d → IsOldOrNew d → HasParents v.parents d → placed_at d v ≡ Join id → (part : Part) → IsIn d.parts part → part.id ≡ id → IsNew d.plan part
joins_new d v id placed is has e part there same =
    let edge : ℕ × ℕ = tree_edge_of d v
    in let rule : Bool = is_unmoved d.plan edge.0 || is_budgeted d.threshold edge.1 (facts_of d edge).records (stored d)
    in let joins = joins_if rule (part_of d.parts edge.0) id e
    in let stays : is_unmoved d.plan edge.0 ≡ false = either_false (is_unmoved d.plan edge.0) (is_budgeted d.threshold edge.1 (facts_of d edge).records (stored d)) joins.0
    in let parent = parent_there (length d.cvd.versions) v.parents (records_of v (recs d.cvd.versions [])) (recs d.cvd.versions []) has.0 has.1
    in let some : 1 ≤ part_times d.parts edge.0 = omega (arith, placed.each edge.0 parent.0 parent.1)
    in new_by d.plan part edge.0 (is.either part there)
    (serves d.parts edge.0 some (placed.ids_once (part_of d.parts edge.0)) part there (same ∙ sym joins.1)) stays
