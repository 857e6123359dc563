-- A `migrate`, out of the steps that were taken.
use Rattle.std.proofs.Common.{◌≡◌, ◌∙◌, ◌+◌, inl, inr, suc, ℕ, List, [], ◌∷◌, map, Some, None, refl, sym, ap, subst, arith}
use Rattle.std.specs.Prelude.{◌≤◌, ◌||◌, ◌==◌, Bool, true, false, not, is_some, Option, Ok, Err, Result}
use Rattle.std.proofs.lemmas.Bool.{eqb-true, not-true}
use Rattle.std.proofs.lemmas.List.Sums.{sum_by-cons}
use Rattle.ov_host.specs.declared.area.Extent.{Extent}
use Rattle.ov_host.specs.Host.{State}
use Rattle.ov_catalog.specs.Numbers.{Numbers, PlanNumbers, SetNumbers, each_plan, each_set}
use Rattle.ov_catalog.specs.Shown.{shown}
use Rattle.ov_catalog.specs.Steps.{plan_steps, steps_left, steps_of}
use Rattle.ov_core.specs.AtWorld.{IsAtWorld}
use Rattle.ov_core.specs.Held.{Held}
use Rattle.law_events.proofs.Left.{all_left}
use Rattle.law_image.specs.Pages.{readings_of}
use Rattle.law_moves.proofs.Migrating.{migrate_all, migrate_broken, migrate_full, migrate_no_run}
use Rattle.law_runs.specs.Serving.{Breaks, Does}
use Rattle.law_runs.specs.Stepping.{IsStepping}
use Rattle.law_steps.specs.Turns.{running}
use Rattle.ov_model.specs.Act.{Session}
use Rattle.ov_model.specs.Deed.{permitted}
use Rattle.ov_model.specs.Steps as model
use Rattle.ov_model.specs.World.{World}
use Rattle.ov_model.specs.declared.command.Command.TheVariants as asks
use Rattle.ov_model.specs.declared.reply.Reply.{Reply}
use Rattle.ov_model.specs.declared.reply.Reply.TheVariants as says
use Rattle.ov_session.proofs.Idling.{AreIdle, are_idle}
use Rattle.ov_session.proofs.Taking.{some_left}
use Rattle.ov_session.specs.Commands.{IfNoFile}
use Rattle.ov_session.specs.Stepping.{IsCutOff, IsOver, IsSteppedBy, LacksRoom, TakesNoStep, migrated, told_by}
use Rattle.ov_session.specs.declared.errors.EndErr.{EndErr}
use Rattle.ov_session.specs.declared.stepping.Lack.{Lack}
use Rattle.ov_session.specs.declared.stepping.Lack.TheVariants as lack
use Rattle.ov_session.specs.declared.stepping.Ran.{Ran}
use Rattle.ov_store.proofs.Fitting.{sees}
use Rattle.ov_store.specs.Committing.{Set}

-- ---- how many are left

plan_each : {S T : Type 0} (g : S → T) (plan : Option (PlanNumbers S)) → plan_steps (each_plan g plan) ≡ plan_steps plan
plan_each g None = refl
plan_each g (Some plan) = refl

sets_each : {L M S T : Type 0} (f : L → M) (g : S → T) (sets : List (SetNumbers L S)) → steps_of (map (each_set f g) sets) ≡ steps_of sets
sets_each f g [] = refl
sets_each f g (d ∷ sets) =
    sum_by-cons (λ x. plan_steps x.plan) (each_set f g d) (map (each_set f g) sets)
    ∙ (λ i. plan_each g d.plan i + sets_each f g sets i)
    ∙ sym (sum_by-cons (λ x. plan_steps x.plan) d sets)

-- by the numbers as many as by the World
pub left_here : (w : World) (held : Held) (s : State) → IsAtWorld w held s → steps_left held.numbers ≡ model.steps_left w
left_here w held s at =
    sym (sets_each (readings_of s.tape.disk.pages.bytes).list (readings_of s.tape.disk.pages.bytes).segment held.numbers.sets)
    ∙ ap (λ n. steps_left n) (sees w held s at) ∙ sets_each Some Some (shown w).sets ∙ all_left w at.stands.stands.reached

idle_left : (sets : List Set) → AreIdle sets → steps_of sets ≡ 0
idle_left [] idle = refl
idle_left (s ∷ sets) idle = sum_by-cons (λ x. plan_steps x.plan) s sets ∙ (λ i. plan_steps (idle.0 i) + idle_left sets idle.1 i)

-- none where no plan runs
pub none_left : (n : Numbers Extent Extent) → running n ≡ None → steps_left n ≡ 0
none_left n none = idle_left n.sets (are_idle n.sets none)

abbrev ended : Ran → Result Ran EndErr
ended ran = Ok ran

the_ran : (a b : Ran) → ended a ≡ ended b → a ≡ b
the_ran a b e = cc

pub no_ran : (e : EndErr) → (let one : Result Ran EndErr = Err e in one) ≡ ended (record { taken = 0; lacks = None }) → ⊥
no_ran e is = cc

abbrev replied : Reply → Result Reply EndErr
replied r = Ok r

-- so no step is told
pub migrated_none : (ran : Ran) (before now : Numbers Extent Extent) (r : Reply) → ended ran ≡ ended (record { taken = 0; lacks = None }) → now ≡ before → running before ≡ None
    → r ≡ migrated ran (steps_left now) → replied r ≡ replied (says.Migrate 0 0)
migrated_none ran before now r is same none tells =
    let left : steps_left now ≡ 0 = ap (λ (n : Numbers Extent Extent). steps_left n) same ∙ none_left before none
    in ap replied (tells ∙ (λ i. migrated (the_ran ran (record { taken = 0; lacks = None }) is i) (left i)))

-- ---- what it means

module _ (n : ℕ) (w : World) (s : Session) (before : Held) (old : State) where
  module _ (left taken : ℕ) (v : World) (now : Held) (new : State) (is : IsStepping n left w v before now old new) (count : taken + left ≡ n) where
    lacking : (k : ℕ) → left ≡ suc k → (what : Lack) → LacksRoom v now what → Does (permitted w s (asks.Migrate n)) s s w (told_by taken (model.steps_left v) (Some what)) before now old new
    lacking k same (lack.Run pages) room =
        migrate_no_run n k s w v room.step before now old new (subst (λ (m : ℕ). IsStepping n m w v before now old new) same is) room.next taken
        (subst (λ (m : ℕ). taken + m ≡ n) same count) pages room.wanting
    lacking k same lack.Record room =
        migrate_full n k s w v room.step before now old new (subst (λ (m : ℕ). IsStepping n m w v before now old new) same is) room.next taken
        (subst (λ (m : ℕ). taken + m ≡ n) same count) room.wanting

    over_does : (o : Option Lack) → IsOver left v now o → Does (permitted w s (asks.Migrate n)) s s w (told_by taken (model.steps_left v) o) before now old new
    over_does None over = migrate_all n s w v before now old new left is taken count over
    over_does (Some what) over = let some = some_left left over.0 in lacking some.0 some.1 what over.1

  -- its steps were taken, or there was no room for one
  pub ran_does : (ran : Ran) (now : Held) (new : State) → IsSteppedBy n w ran before now old new
      → Does (permitted w s (asks.Migrate n)) s s w (migrated ran (steps_left now.numbers)) before now old new
  ran_does ran now new is =
      subst (λ (left : ℕ). Does (permitted w s (asks.Migrate n)) s s w (migrated ran left) before now old new) (sym (left_here is.world now new is.stepping.at))
      (over_does is.left ran.taken is.world now new is.stepping is.count ran.lacks is.over)

  -- it was broken off in one
  pub cut_breaks : (new : State) → IsCutOff n w before old new → Breaks (permitted w s (asks.Migrate n)) s w old new
  cut_breaks new is =
      migrate_broken n is.left s w is.world is.broken.step before is.held old is.mid is.stepping is.broken.next new is.broken.stops

-- ---- its reply

told_seen : (taken left : ℕ) (o : Option Lack) → IfNoFile ⊥ (told_by taken left o)
told_seen taken left None = λ name is. cc
told_seen taken left (Some (lack.Run pages)) = λ name is. cc
told_seen taken left (Some lack.Record) = λ name is. cc

pub migrated_seen : (ran : Ran) (left : ℕ) (r : Reply) → r ≡ migrated ran left → IfNoFile ⊥ r
migrated_seen ran left r is = subst (IfNoFile ⊥) (sym is) (told_seen ran.taken left ran.lacks)

-- ---- as a command that has no step to take

is_none : {A : Type 0} → (o : Option A) → is_some o ≡ false → o ≡ None
is_none None is = refl
is_none (Some a) is = cc

-- none is asked for, or no plan runs
pub none_to_take : (count : ℕ) (n : Numbers Extent Extent) → ((count == 0) || not (is_some (running n))) ≡ true → TakesNoStep count n
none_to_take count n off = by (count == 0) refl off
  where
    by : (b : Bool) → (count == 0) ≡ b → (b || not (is_some (running n))) ≡ true → TakesNoStep count n
    by true zero_is off = inl (eqb-true count 0 zero_is)
    by false some off = inr (is_none (running n) (not-true (is_some (running n)) off))

pub fetched_same : (old new : State) → new ≡ old → new.fetched ≤ old.fetched
fetched_same old new same = let fetched = ap (λ (s : State). s.fetched) same in omega (arith, fetched)
