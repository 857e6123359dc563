-- Each step is one step less.
use Rattle.std.proofs.Common.{◌≡◌, ◌≤◌, ◌<◌, ℕ, zero, suc, ◌+◌, Bool, true, false, ◌==◌, List, [], ◌∷◌, ◌++◌, length, refl, sym, ◌∙◌, ap, subst, arith}
use Rattle.std.specs.Prelude.{if◌then◌else◌, nat_lt, Option, Some, None}
use Rattle.std.proofs.lemmas.Bool.{cond-true, cond-false, eqb-true, eq-eqb, ltb-false}
use Rattle.ov_model.specs.Lists.{joined}
use Rattle.ov_model.specs.Moves.{Move, Copy, Flip, moved, change, numbered}
use Rattle.ov_model.specs.Placed.{times}
use Rattle.ov_model.specs.Plans.{records_in, missing, current, copied_for, copied_more, target_part, next_target, flipped_by, flipped, steps_for, target_steps, plan_steps_of, plan_steps}
use Rattle.ov_model.specs.Records.{lacking}
use Rattle.ov_model.specs.Steps.{step_of, step_or, first_step, next_step, steps_of_all, steps_left}
use Rattle.ov_model.specs.World.{Target, Plan, Dataset, World, targets_from}
use Rattle.ov_model.proofs.Counting.{one_if, one_same}
use Rattle.law_partitions.specs.Countdown.{PlanRuns, AllRun, number_times, AreNumbered}
use Rattle.law_partitions.specs.Pieces.{AllKept, target_times, IsUnderWay, PlanIsUnderWay, HasPieces, ArePieces}
use Rattle.law_partitions.proofs.CountRuns.{from_at, none_from}
use Rattle.law_partitions.proofs.MissingAfter.{copied_steps}
use Rattle.law_partitions.proofs.PieceFlip.{kept_stay}

-- ---- a flip

-- the later targets miss what they missed
module _ (d : Dataset) (plan : Plan) where
  abbrev ours : List ℕ
  ours = (current plan).versions

  abbrev after : Dataset
  after = flipped_by d (Some plan)

  steps_stay : (ts : List Target) → AllKept d ts → ((vid : ℕ) → times ours vid + target_times ts vid ≤ 1) → target_steps after ts [] ≡ target_steps d ts []
  steps_stay [] kept apart = refl
  steps_stay (t ∷ ts) kept apart =
      λ i. steps_for (length (lacking (records_in d.cvd t.versions)
      (joined (kept_stay ours d.parts (target_part d plan ∷ []) t (λ vid. omega (arith, apart vid)) kept.0.serves i) ++ [])))
      + steps_stay ts kept.1 (λ vid. omega (arith, apart vid)) i

  no_copies : steps_for 0 ≡ 1
  no_copies = omega arith

  flip_if : (t : Bool) → nat_lt (plan.at + 1) (length plan.targets) ≡ t → plan.at < length plan.targets → IsUnderWay d plan → length (missing d plan) ≡ 0
      → plan_steps_of after (if t then Some (record plan { at = plan.at + 1; copied = [] }) else None) + 1 ≡ plan_steps_of d (Some plan)
  flip_if t is low way none =
      let rest : List Target = targets_from (suc plan.at) plan.targets
      in let split : targets_from plan.at plan.targets ≡ current plan ∷ rest = from_at plan.at plan.targets low
      in let kept : AllKept d (current plan ∷ rest) = subst (AllKept d) split way.kept
      in let apart : (vid : ℕ) → times ours vid + target_times rest vid ≤ 1 = λ vid. omega (arith, way.apart vid, ap (λ ts. target_times ts vid) split)
      in let all : plan_steps_of d (Some plan) ≡ 1 + target_steps d rest [] =
      ap (λ ts. target_steps d ts plan.copied) split ∙ ap (λ n. steps_for n + target_steps d rest []) none ∙ ap (λ n. n + target_steps d rest []) no_copies
      in by t is rest refl (steps_stay rest kept.1 apart) all
    where
      by : (b : Bool) → nat_lt (plan.at + 1) (length plan.targets) ≡ b → (rest : List Target) → targets_from (suc plan.at) plan.targets ≡ rest
          → target_steps after rest [] ≡ target_steps d rest [] → plan_steps_of d (Some plan) ≡ 1 + target_steps d rest []
          → plan_steps_of after (if b then Some (record plan { at = plan.at + 1; copied = [] }) else None) + 1 ≡ plan_steps_of d (Some plan)
      by true test rest is_rest stay all =
          let next : plan.at + 1 ≡ suc plan.at = omega arith
          in omega (arith, ap (λ n. target_steps after (targets_from n plan.targets) []) next, ap (λ ts. target_steps after ts []) is_rest, stay, all)
      by false test rest is_rest stay all =
          let past : length plan.targets ≤ suc plan.at = omega (arith, ltb-false (plan.at + 1) (length plan.targets) test)
          in let none : rest ≡ [] = sym is_rest ∙ none_from (suc plan.at) plan.targets past
          in omega (arith, all, ap (λ ts. target_steps d ts []) none)

  pub flipped_steps : plan.at < length plan.targets → IsUnderWay d plan → length (missing d plan) ≡ 0 → plan_steps_of after (next_target plan) + 1 ≡ plan_steps_of d (Some plan)
  flipped_steps low way none = flip_if (nat_lt (plan.at + 1) (length plan.targets)) refl low way none

-- ---- the step that is next

-- by whether nothing is missing
abbrev pub move_of : Bool → ℕ → Move
move_of t n = if t then Flip n else Copy n

abbrev after_of : Bool → Dataset → Dataset
after_of true d = flipped d
after_of false d = copied_more d

pub some_missing : (n : ℕ) → (n == 0) ≡ false → 0 < n
some_missing zero e = cc
some_missing (suc n) e = omega arith

step_lowers : (t : Bool) (d : Dataset) (plan : Plan) → d.plan ≡ Some plan → (length (missing d plan) == 0) ≡ t → PlanRuns (Some plan) → HasPieces d
    → plan_steps (after_of t d) + 1 ≡ plan_steps d
step_lowers true d plan is none runs has =
    let way : PlanIsUnderWay d (Some plan) = subst (PlanIsUnderWay d) is has.plan
    in ap (λ p. plan_steps (flipped_by d p) + 1) is ∙ flipped_steps d plan runs way (eqb-true (length (missing d plan)) 0 none) ∙ sym (ap (plan_steps_of d) is)
step_lowers false d plan is some runs has =
    ap (λ p. plan_steps_of (record d { plan = copied_for d p }) (copied_for d p) + 1) is
    ∙ copied_steps d plan runs has.rows (some_missing (length (missing d plan)) some) ∙ sym (ap (plan_steps_of d) is)

-- a dataset of another number stays as it is
unchanged : (n : ℕ) (f : Dataset → Dataset) (sets : List Dataset) → number_times sets n ≡ 0 → change n f sets ≡ sets
unchanged n f [] none = refl
unchanged n f (d ∷ sets) none =
    λ i. cond-false (numbered n d) (f d) d (other (numbered n d) refl) i ∷ unchanged n f sets (omega (arith, none)) i
  where
    other : (t : Bool) → numbered n d ≡ t → t ≡ false
    other false e = refl
    other true e = absurd (omega (arith, none, ap one_if e))

pub record Lowers (sets : List Dataset) (m : Move) : Type 0 where
  pub test : Bool
  pub number : ℕ
  pub is : m ≡ move_of test number
  pub there : 1 ≤ number_times sets number
  pub one_less : steps_of_all (change number (after_of test) sets) + 1 ≡ steps_of_all sets

pub some_same : (a b : Move) → Some a ≡ Some b → a ≡ b
some_same a b e = cc

lowers_if : (d : Dataset) (sets : List Dataset) (m : Move) (plan : Option Plan) → d.plan ≡ plan → step_or d plan (first_step sets) ≡ Some m
    → ((n : ℕ) → number_times (d ∷ sets) n ≤ 1) → PlanRuns plan → HasPieces d
    → (first_step sets ≡ Some m → Lowers sets m) → Lowers (d ∷ sets) m
lowers_if d sets m None is step once runs has later =
    let low : Lowers sets m = later step
    in let other : numbered low.number d ≡ false = apart low.number (numbered low.number d) refl (once low.number) low.there
    in record {
      test = low.test;
      number = low.number;
      is = low.is;
      there = omega (arith, low.there);
      one_less = omega (arith, low.one_less, ap plan_steps (cond-false (numbered low.number d) (after_of low.test d) d other));
    }
  where
    apart : (k : ℕ) (t : Bool) → (d.cvd.number == k) ≡ t → number_times (d ∷ sets) k ≤ 1 → 1 ≤ number_times sets k → t ≡ false
    apart k false e most some = refl
    apart k true e most some = absurd (omega (arith, most, some, ap one_if e))
lowers_if d sets m (Some plan) is step once runs has later =
    let test : Bool = length (missing d plan) == 0
    in let number : ℕ = d.cvd.number
    in let here : one_if (number == number) ≡ 1 = one_same number number refl
    in record {
      test = test;
      number = number;
      is = sym (some_same (step_of d plan) m step);
      there = omega (arith, here);
      one_less =
          let rest : change number (after_of test) sets ≡ sets = unchanged number (after_of test) sets (omega (arith, once number, here))
          in let own : (if numbered number d then after_of test d else d) ≡ after_of test d = cond-true (numbered number d) (after_of test d) d (eq-eqb number number refl)
          in omega (arith, ap plan_steps own, ap steps_of_all rest, step_lowers test d plan is refl runs has);
    }

lowers : (sets : List Dataset) (m : Move) → first_step sets ≡ Some m → ((n : ℕ) → number_times sets n ≤ 1) → AllRun sets → ArePieces sets → Lowers sets m
lowers [] m step once runs are = cc
lowers (d ∷ sets) m step once runs are =
    lowers_if d sets m d.plan refl step once runs.0 are.0
    (λ later. lowers sets m later (λ n. omega (arith, once n)) runs.1 are.1)

by_test : (t : Bool) (n : ℕ) (w : World) → steps_left (moved (move_of t n) w) ≡ steps_of_all (change n (after_of t) w.sets)
by_test true n w = refl
by_test false n w = refl

pub one_step_less : (w : World) (m : Move) → next_step w ≡ Some m → AreNumbered w → AllRun w.sets → ArePieces w.sets → steps_left (moved m w) + 1 ≡ steps_left w
one_step_less w m step numbered_are runs are =
    let low : Lowers w.sets m = lowers w.sets m step numbered_are.once runs are
    in ap (λ k. steps_left (moved k w) + 1) low.is ∙ omega (arith, by_test low.test low.number w, low.one_less)
