-- Where steps are left: exactly where a plan runs.
use Rattle.std.proofs.Common.{◌≡◌, ◌≤◌, ◌<◌, ℕ, zero, suc, ◌+◌, ◌-◌, Bool, true, false, ◌==◌, List, [], ◌∷◌, ◌++◌, length, filter, refl, sym, ◌∙◌, ap, subst, inl, inr, arith}
use Rattle.std.specs.Prelude.{if◌then◌else◌, not, nat_lt, slice_index_or, Option, Some, None}
use Rattle.std.proofs.lemmas.Bool.{cases_Bool, cond-false, ltb-true, eqb-true, ne_eqb}
use Rattle.ov_graph.specs.Trees.{vids}
use Rattle.ov_value.specs.declared.column.Column.{Column}
use Rattle.ov_model.specs.Book.{Row}
use Rattle.ov_model.specs.Moves.{Move, Init, Commit, BeginPlan, Copy, Flip, Drop, Checkpoint, moved, change, numbered, committed, wide, wide_plan, new_set}
use Rattle.ov_model.specs.Placed.{times}
use Rattle.ov_model.specs.Plans.{parts_at, targets_of, planned, no_target, copied_for, copied_more, flipped_by, flipped, target_steps, plan_steps_of}
use Rattle.ov_model.specs.Steps.{step_of, step_or, first_step, steps_of_all}
use Rattle.ov_model.specs.World.{Target, Plan, Dataset, World, targets_from, AllBegun}
use Rattle.ov_model.proofs.Counting.{one_if, one_most, one_other}
use Rattle.law_partitions.specs.Countdown.{PlanRuns, AllRun, number_times, AreNumbered}
use Rattle.law_partitions.proofs.PlanParts.{list_times, parts_times}

-- ---- the targets that are left

pub all_from : (ts : List Target) → targets_from 0 ts ≡ ts
all_from [] = refl
all_from (t ∷ ts) = refl

pub behind : (k : ℕ) (t : Target) (ts : List Target) → targets_from (suc k) (t ∷ ts) ≡ targets_from k ts
behind k t ts =
    let back : suc k - 1 ≡ k = omega arith
    in cond-false (suc k == 0) (t ∷ ts) (targets_from (suc k - 1) ts) (ne_eqb (suc k) 0 (λ e. omega (arith, e))) ∙ ap (λ n. targets_from n ts) back

-- the current one, and then those behind it
pub from_at : (k : ℕ) (ts : List Target) → k < length ts → targets_from k ts ≡ slice_index_or ts k no_target ∷ targets_from (suc k) ts
from_at k [] low = absurd (omega (arith, low))
from_at zero (t ∷ ts) low = ap (λ rest. t ∷ rest) (sym (behind 0 t ts ∙ all_from ts))
from_at (suc k) (t ∷ ts) low =
    behind k t ts ∙ from_at k ts (omega (arith, low))
    ∙ ap (λ rest. slice_index_or ts k no_target ∷ rest) (sym (behind (suc k) t ts))

pub none_from : (k : ℕ) (ts : List Target) → length ts ≤ k → targets_from k ts ≡ []
none_from k [] past = refl
none_from zero (t ∷ ts) past = absurd (omega (arith, past))
none_from (suc k) (t ∷ ts) past = behind k t ts ∙ none_from k ts (omega (arith, past))

-- ---- no steps are left where no plan runs

some_step : (d : Dataset) (plan : Plan) → plan.at < length plan.targets → 1 ≤ plan_steps_of d (Some plan)
some_step d plan low =
    subst (λ ts. 1 ≤ target_steps d ts plan.copied) (sym (from_at plan.at plan.targets low)) (omega arith)

clash_some : (m : Move) → Some m ≡ None → ⊥
clash_some m e = cc

none_of : (d : Dataset) (plan : Option Plan) (later : Option Move) → step_or d plan later ≡ None → (plan_steps_of d plan ≡ 0) × (later ≡ None)
none_of d None later e = (refl, e)
none_of d (Some plan) later e = absurd (clash_some (step_of d plan) e)

pub none_left : (sets : List Dataset) → first_step sets ≡ None → steps_of_all sets ≡ 0
none_left [] e = refl
none_left (d ∷ sets) e =
    let is = none_of d d.plan (first_step sets) e
    in omega (arith, is.0, none_left sets is.1)

step_none : (d : Dataset) (plan : Option Plan) (later : Option Move) → PlanRuns plan → plan_steps_of d plan ≡ 0 → later ≡ None → step_or d plan later ≡ None
step_none d None later runs e none = none
step_none d (Some plan) later runs e none = absurd (omega (arith, e, some_step d plan runs))

pub no_plan : (sets : List Dataset) → AllRun sets → steps_of_all sets ≡ 0 → first_step sets ≡ None
no_plan [] runs e = refl
no_plan (d ∷ sets) runs e = step_none d d.plan (first_step sets) runs.0 (omega (arith, e)) (no_plan sets runs.1 (omega (arith, e)))

-- ---- a running plan has a target left

targets_long : (d : Dataset) (parts : List (List ℕ)) → length (targets_of d parts) ≡ length parts
targets_long d [] = refl
targets_long d (vs ∷ parts) = ap (λ n. suc n) (targets_long d parts)

some_lists : (vss : List (List ℕ)) (vid : ℕ) → 1 ≤ list_times vss vid → 0 < length vss
some_lists [] vid some = absurd (omega (arith, some))
some_lists (vs ∷ vss) vid some = omega arith

first_vid : (count : ℕ) → 0 < count → 1 ≤ times (vids count) 1
first_vid zero low = absurd (omega (arith, low))
first_vid (suc count) low = omega arith

planned_runs : (p q : ℕ) (d : Dataset) → 0 < length d.cvd.versions → PlanRuns (planned p q d).plan
planned_runs p q d begun =
    omega (
      arith,
      targets_long d (parts_at d p q),
      some_lists (parts_at d p q) 1 (omega (arith, parts_times d p q 1, first_vid (length d.cvd.versions) begun)),
    )

wide_runs : (n : ℕ) (plan : Option Plan) → PlanRuns plan → PlanRuns (wide_plan n plan)
wide_runs n None runs = runs
wide_runs n (Some plan) runs = runs

committed_runs : (parents message : List ℕ) (added : List Column) (rows : List Row) (d : Dataset) → PlanRuns d.plan → PlanRuns (committed parents message added rows d).plan
committed_runs parents message [] rows d runs = runs
committed_runs parents message (column ∷ added) rows d runs = wide_runs (length (column ∷ added)) d.plan runs

copied_runs : (d : Dataset) (plan : Option Plan) → PlanRuns plan → PlanRuns (copied_for d plan)
copied_runs d None runs = runs
copied_runs d (Some plan) runs = runs

next_runs : (t : Bool) (plan : Plan) → (t ≡ true → plan.at + 1 < length plan.targets) → PlanRuns (if t then Some (record plan { at = plan.at + 1; copied = [] }) else None)
next_runs true plan low = low refl
next_runs false plan low = tt

flipped_runs : (d : Dataset) (plan : Option Plan) → d.plan ≡ plan → PlanRuns plan → PlanRuns (flipped_by d plan).plan
flipped_runs d None e runs = subst PlanRuns (sym e) runs
flipped_runs d (Some plan) e runs =
    next_runs (nat_lt (plan.at + 1) (length plan.targets)) plan (λ t. ltb-true (plan.at + 1) (length plan.targets) t)

runs-append : (a b : List Dataset) → AllRun a → AllRun b → AllRun (a ++ b)
runs-append [] b are more = more
runs-append (d ∷ a) b are more = (are.0, runs-append a b are.1 more)

runs_if : (t : Bool) (d : Dataset) (sets : List Dataset) → PlanRuns d.plan → AllRun sets → AllRun (if t then d ∷ sets else sets)
runs_if true d sets is are = (is, are)
runs_if false d sets is are = are

runs-filter : (test : Dataset → Bool) (sets : List Dataset) → AllRun sets → AllRun (filter test sets)
runs-filter test [] are = tt
runs-filter test (d ∷ sets) are = runs_if (test d) d (filter test sets) are.0 (runs-filter test sets are.1)

change_if : (t : Bool) (f : Dataset → Dataset) (d : Dataset) → PlanRuns (f d).plan → PlanRuns d.plan → PlanRuns (if t then f d else d).plan
change_if true f d more is = more
change_if false f d more is = is

runs_changed : (cvd : ℕ) (f : Dataset → Dataset) (sets : List Dataset) → ((d : Dataset) → 0 < length d.cvd.versions → PlanRuns d.plan → PlanRuns (f d).plan)
    → AllBegun sets → AllRun sets → AllRun (change cvd f sets)
runs_changed cvd f [] more begun are = tt
runs_changed cvd f (d ∷ sets) more begun are =
    (change_if (numbered cvd d) f d (more d begun.0 are.0) are.0, runs_changed cvd f sets more begun.1 are.1)

pub moved_runs : (m : Move) (w : World) → AllBegun w.sets → AllRun w.sets → AllRun (moved m w).sets
moved_runs (Init name schema rows) w begun are = runs-append w.sets (new_set w.next name schema rows ∷ []) are (tt, tt)
moved_runs (Commit cvd parents message added rows) w begun are =
    runs_changed cvd (committed parents message added rows) w.sets (λ d some runs. committed_runs parents message added rows d runs) begun are
moved_runs (BeginPlan cvd p q) w begun are = runs_changed cvd (planned p q) w.sets (λ d some runs. planned_runs p q d some) begun are
moved_runs (Copy cvd) w begun are = runs_changed cvd copied_more w.sets (λ d some runs. copied_runs d d.plan runs) begun are
moved_runs (Flip cvd) w begun are = runs_changed cvd flipped w.sets (λ d some runs. flipped_runs d d.plan refl runs) begun are
moved_runs (Drop cvd) w begun are = runs-filter (λ d. not (numbered cvd d)) w.sets are
moved_runs Checkpoint w begun are = are

-- ---- numbers of datasets

numbers-append : (a b : List Dataset) (n : ℕ) → number_times (a ++ b) n ≡ number_times a n + number_times b n
numbers-append [] b n = omega arith
numbers-append (d ∷ a) b n = omega (arith, numbers-append a b n)

numbers_if : (t : Bool) (d : Dataset) (sets : List Dataset) (n : ℕ) → number_times (if t then d ∷ sets else sets) n ≤ one_if (d.cvd.number == n) + number_times sets n
numbers_if true d sets n = omega arith
numbers_if false d sets n = omega arith

numbers-filter : (test : Dataset → Bool) (sets : List Dataset) (n : ℕ) → number_times (filter test sets) n ≤ number_times sets n
numbers-filter test [] n = omega arith
numbers-filter test (d ∷ sets) n = omega (arith, numbers_if (test d) d (filter test sets) n, numbers-filter test sets n)

number_if : (t : Bool) (f : Dataset → Dataset) (d : Dataset) → (f d).cvd.number ≡ d.cvd.number → (if t then f d else d).cvd.number ≡ d.cvd.number
number_if true f d same = same
number_if false f d same = refl

pub numbers_changed : (cvd : ℕ) (f : Dataset → Dataset) (sets : List Dataset) (n : ℕ) → ((d : Dataset) → (f d).cvd.number ≡ d.cvd.number)
    → number_times (change cvd f sets) n ≡ number_times sets n
numbers_changed cvd f [] n same = refl
numbers_changed cvd f (d ∷ sets) n same =
    λ i. one_if (number_if (numbered cvd d) f d (same d) i == n) + numbers_changed cvd f sets n same i

wide_number : (added : List Column) (d : Dataset) → (wide added d).cvd.number ≡ d.cvd.number
wide_number [] d = refl
wide_number (column ∷ added) d = refl

flipped_number : (d : Dataset) (plan : Option Plan) → (flipped_by d plan).cvd.number ≡ d.cvd.number
flipped_number d None = refl
flipped_number d (Some plan) = refl

numbered_changed : (cvd : ℕ) (f : Dataset → Dataset) (w : World) → ((d : Dataset) → (f d).cvd.number ≡ d.cvd.number) → AreNumbered w
    → AreNumbered (record w { sets = change cvd f w.sets; records = w.records + 1 })
numbered_changed cvd f w same are = record {
  once = λ n. omega (arith, numbers_changed cvd f w.sets n same, are.once n);
  below = λ n past. numbers_changed cvd f w.sets n same ∙ are.below n past;
}

new_numbered : (w : World) (d : Dataset) → d.cvd.number ≡ w.next → AreNumbered w → AreNumbered (record w { sets = w.sets ++ d ∷ []; next = w.next + 1; records = w.records + 1 })
new_numbered w d is are = record {
  once = λ n. elim (cases_Bool (d.cvd.number == n)) [
    | inl same ↦
        let here : d.cvd.number ≡ n = eqb-true d.cvd.number n same
        in omega (arith, numbers-append w.sets (d ∷ []) n, one_most (d.cvd.number == n), are.below n (omega (arith, here, is)))
    | inr other ↦
        let none : one_if (d.cvd.number == n) ≡ 0 = ap one_if other
        in omega (arith, numbers-append w.sets (d ∷ []) n, none, are.once n)
  ];
  below = λ n past.
      omega (arith, numbers-append w.sets (d ∷ []) n, one_other d.cvd.number n (λ e. omega (arith, e, is, past)), are.below n (omega (arith, past)));
}

pub moved_numbered : (m : Move) (w : World) → AreNumbered w → AreNumbered (moved m w)
moved_numbered (Init name schema rows) w are = new_numbered w (new_set w.next name schema rows) refl are
moved_numbered (Commit cvd parents message added rows) w are =
    numbered_changed cvd (committed parents message added rows) w (λ d. wide_number added d) are
moved_numbered (BeginPlan cvd p q) w are = numbered_changed cvd (planned p q) w (λ d. refl) are
moved_numbered (Copy cvd) w are = numbered_changed cvd copied_more w (λ d. refl) are
moved_numbered (Flip cvd) w are = numbered_changed cvd flipped w (λ d. flipped_number d d.plan) are
moved_numbered (Drop cvd) w are = record {
  once = λ n. omega (arith, numbers-filter (λ d. not (numbered cvd d)) w.sets n, are.once n);
  below = λ n past. omega (arith, numbers-filter (λ d. not (numbered cvd d)) w.sets n, are.below n past);
}
moved_numbered Checkpoint w are = record { once = are.once; below = are.below }
