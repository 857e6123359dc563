-- All that holds in a World stays so; and steps come to an end.
use Rattle.std.proofs.Common.{◌≡◌, ◌≤◌, ℕ, zero, suc, ◌+◌, ◌-◌, min, Bool, true, false, ◌==◌, List, [], ◌∷◌, length, refl, sym, subst, arith}
use Rattle.std.specs.Prelude.{Option, Some, None}
use Rattle.std.proofs.lemmas.Bool.{eqb-true}
use Rattle.ov_model.specs.Holding.{HasAll, AllHaveAll}
use Rattle.ov_model.specs.Moves.{Move, moved}
use Rattle.ov_model.specs.Plans.{missing}
use Rattle.ov_model.specs.Records.{Rec}
use Rattle.ov_model.specs.Steps.{step_of, step_or, first_step, next_step, next_steps, and_after, all_moved, steps_left}
use Rattle.ov_model.specs.World.{Plan, Dataset, World, empty_world}
use Rattle.ov_model.proofs.Counting.{one_if, one_same}
use Rattle.ov_model.proofs.Holds.{moved_held}
use Rattle.ov_model.proofs.Placing.{moved_placed}
use Rattle.ov_model.proofs.Replying.{begun_moved}
use Rattle.law_partitions.specs.Countdown.{number_times, AreNumbered}
use Rattle.law_partitions.specs.Pieces.{LacksSome, AllLackSome}
use Rattle.law_partitions.specs.Sound.{IsSound, MayMove}
use Rattle.law_partitions.proofs.CountRuns.{moved_runs, moved_numbered, none_left, no_plan}
use Rattle.law_partitions.proofs.CountSteps.{move_of, one_step_less, some_missing, some_same}
use Rattle.law_partitions.proofs.PieceKept.{moved_pieces}
use Rattle.law_partitions.proofs.PieceOrder.{moved_ordered}

pub empty_sound : IsSound empty_world
empty_sound = record {
  numbered = record { once = λ n. omega arith; below = λ n past. refl };
  begun = tt;
  run = tt;
  placed = tt;
  held = tt;
  pieces = tt;
  ordered = tt;
}

pub moved_sound : (m : Move) (w : World) → MayMove m w → IsSound w → IsSound (moved m w)
moved_sound m w may is = record {
  numbered = moved_numbered m w is.numbered;
  begun = begun_moved w m is.begun;
  run = moved_runs m w is.begun is.run;
  placed = moved_placed m w may.parents is.placed;
  held = moved_held m w may.flip is.placed is.held;
  pieces = moved_pieces m w may.rows may.copy may.flip is.placed is.held is.pieces;
  ordered = moved_ordered m w is.pieces is.ordered;
}

-- ---- the step that is next

-- what it asks, by whether nothing is missing
abbrev Asks : Bool → ℕ → List Dataset → Type 0
Asks true number sets = AllHaveAll number sets
Asks false number sets = AllLackSome number sets

abbrev AsksOne : Bool → ℕ → Dataset → Type 0
AsksOne true number d = d.cvd.number ≡ number → HasAll d d.plan
AsksOne false number d = d.cvd.number ≡ number → LacksSome d d.plan

with_one : (t : Bool) (number : ℕ) (d : Dataset) (sets : List Dataset) → AsksOne t number d → Asks t number sets → Asks t number (d ∷ sets)
with_one true number d sets one are = (one, are)
with_one false number d sets one are = (one, are)

other_one : (t : Bool) (number : ℕ) (d : Dataset) → (d.cvd.number ≡ number → ⊥) → AsksOne t number d
other_one true number d other = λ e. absurd (other e)
other_one false number d other = λ e. absurd (other e)

others : (t : Bool) (number : ℕ) (sets : List Dataset) → number_times sets number ≡ 0 → Asks t number sets
others true number [] none = tt
others false number [] none = tt
others t number (d ∷ sets) none =
    with_one t number d sets (other_one t number d (λ e. omega (arith, none, one_same d.cvd.number number e))) (others t number sets (omega (arith, none)))

no_records : (rs : List Rec) → length rs ≡ 0 → rs ≡ []
no_records [] e = refl
no_records (r ∷ rs) e = absurd (omega (arith, e))

own_one : (t : Bool) (d : Dataset) (plan : Plan) → d.plan ≡ Some plan → (length (missing d plan) == 0) ≡ t → AsksOne t d.cvd.number d
own_one true d plan is test = λ e. subst (HasAll d) (sym is) (no_records (missing d plan) (eqb-true (length (missing d plan)) 0 test))
own_one false d plan is test = λ e. subst (LacksSome d) (sym is) (some_missing (length (missing d plan)) test)

record Asked (sets : List Dataset) (m : Move) : Type 0 where
  test : Bool
  number : ℕ
  is : m ≡ move_of test number
  there : 1 ≤ number_times sets number
  asks : Asks test number sets

asked_if : (d : Dataset) (sets : List Dataset) (m : Move) (plan : Option Plan) → d.plan ≡ plan → step_or d plan (first_step sets) ≡ Some m
    → ((n : ℕ) → number_times (d ∷ sets) n ≤ 1) → (first_step sets ≡ Some m → Asked sets m) → Asked (d ∷ sets) m
asked_if d sets m None is step once later =
    let asked : Asked sets m = later step
    in record {
      test = asked.test;
      number = asked.number;
      is = asked.is;
      there = omega (arith, asked.there);
      asks = with_one asked.test asked.number d sets
          (other_one asked.test asked.number d (λ e. omega (arith, once asked.number, asked.there, one_same d.cvd.number asked.number e))) asked.asks;
    }
asked_if d sets m (Some plan) is step once later =
    let test : Bool = length (missing d plan) == 0
    in let number : ℕ = d.cvd.number
    in let here : one_if (number == number) ≡ 1 = one_same number number refl
    in record {
      test = test;
      number = number;
      is = sym (some_same (step_of d plan) m step);
      there = omega (arith, here);
      asks = with_one test number d sets (own_one test d plan is refl) (others test number sets (omega (arith, once number, here)));
    }

asked_by : (sets : List Dataset) (m : Move) → first_step sets ≡ Some m → ((n : ℕ) → number_times sets n ≤ 1) → Asked sets m
asked_by [] m step once = cc
asked_by (d ∷ sets) m step once = asked_if d sets m d.plan refl step once (λ later. asked_by sets m later (λ n. omega (arith, once n)))

may_by : (t : Bool) (number : ℕ) (w : World) → Asks t number w.sets → MayMove (move_of t number) w
may_by true number w asks = record { parents = tt; rows = tt; copy = tt; flip = asks }
may_by false number w asks = record { parents = tt; rows = tt; copy = asks; flip = tt }

pub next_may : (w : World) (m : Move) → next_step w ≡ Some m → AreNumbered w → MayMove m w
next_may w m step are =
    let asked : Asked w.sets m = asked_by w.sets m step are.once
    in subst (λ k. MayMove k w) (sym asked.is) (may_by asked.test asked.number w asked.asks)

-- ---- steps one after another

pub record Come (n : ℕ) (w : World) (steps : List Move) : Type 0 where
  pub left : steps_left (all_moved steps w) ≡ steps_left w - n
  pub taken : length steps ≡ min n (steps_left w)
  pub sound : IsSound (all_moved steps w)

come_if : (n : ℕ) (w : World) (step : Option Move) → next_step w ≡ step → IsSound w
    → ((m : Move) → next_step w ≡ Some m → Come n (moved m w) (next_steps n (moved m w))) → Come (suc n) w (and_after (next_steps n) w step)
come_if n w None e is later =
    let none : steps_left w ≡ 0 = none_left w.sets e
    in record { left = omega (arith, none); taken = omega (arith, none); sound = is }
come_if n w (Some m) e is later =
    let come : Come n (moved m w) (next_steps n (moved m w)) = later m e
    in let less : steps_left (moved m w) + 1 ≡ steps_left w = one_step_less w m e is.numbered is.run is.pieces
    in record { left = omega (arith, come.left, less); taken = omega (arith, come.taken, less); sound = come.sound }

pub steps_come : (n : ℕ) (w : World) → IsSound w → Come n w (next_steps n w)
steps_come zero w is = record { left = omega arith; taken = omega arith; sound = is }
steps_come (suc n) w is =
    come_if n w (next_step w) refl is
    (λ m e. steps_come n (moved m w) (moved_sound m w (next_may w m e is.numbered) is))

pub steps_end : (w : World) → IsSound w → next_step (all_moved (next_steps (steps_left w) w) w) ≡ None
steps_end w is =
    let come : Come (steps_left w) w (next_steps (steps_left w) w) = steps_come (steps_left w) w is
    in no_plan (all_moved (next_steps (steps_left w) w) w).sets come.sound.run (omega (arith, come.left))
