-- A migration step, at a World.
use Rattle.std.proofs.Common.{◌≡◌, ◌<◌, ◌≤◌, ◌+◌, ◌^◌, ◌==◌, ℕ, Bool, true, false, List, [], ◌∷◌, length, map, refl, sym, ◌∙◌, ap, subst, inl, inr}
use Rattle.std.specs.Prelude.{Option, Some, None, not, nat_lt, is_some, if◌then◌else◌}
use Rattle.std.specs.List.{sum_by}
use Rattle.std.proofs.lemmas.List.{length-map}
use Rattle.std.proofs.lemmas.List.Sums.{sum_by-cons}
use Rattle.std.proofs.lemmas.Bool.{eq-eqb}
use Rattle.ov_event.specs.Spelling.{IsEvent}
use Rattle.ov_event.specs.declared.event.Event.TheVariants as says
use Rattle.ov_host.specs.declared.area.Extent.{Extent}
use Rattle.ov_host.specs.Host.{Rose, State}
use Rattle.ov_model.specs.Moves.{Move, Init, Commit, BeginPlan, Copy, Flip, Drop, Checkpoint, change, moved, numbered}
use Rattle.ov_model.specs.Plans.{flipped, flipped_by, next_target}
use Rattle.ov_model.specs.Steps as model
use Rattle.ov_model.specs.Steps.{next_step}
use Rattle.ov_model.specs.World.{Dataset, Plan, World, first_set}
use Rattle.law_partitions.specs.Sound.{IsSound}
use Rattle.law_partitions.proofs.CountSteps.{one_step_less}
use Rattle.law_events.proofs.Left.{all_left}
use Rattle.law_events.proofs.Reaching.{reached_sound}
use Rattle.law_image.specs.Pages.{readings_of}
use Rattle.ov_catalog.specs.Numbers.{Numbers, PlanNumbers, SetNumbers, each, each_plan, each_set}
use Rattle.ov_catalog.specs.Reached.{Reached}
use Rattle.ov_catalog.specs.Shown.{shown, shown_target}
use Rattle.ov_catalog.specs.Stands.{asked, seen}
use Rattle.ov_catalog.specs.Steps.{plan_steps, steps_left, steps_of}
use Rattle.ov_core.specs.declared.brought.Brought.{Brought}
use Rattle.ov_core.specs.declared.errors.ChangeErr.{ChangeErr}
use Rattle.ov_core.specs.declared.errors.ChangeErr.TheVariants as off
use Rattle.ov_core.specs.AtWorld.{IsAtNext, IsAtWorld}
use Rattle.ov_core.specs.Brought.{Asks, Brings}
use Rattle.ov_core.specs.Held.{Held}
use Rattle.ov_core.specs.Rooms.{IsMade, IsRecorded, IsWhy, IsWhyNotRecorded}
use Rattle.ov_fetch.specs.declared.errors.FetchErr.{FetchErr}
use Rattle.ov_fetch.specs.declared.errors.FetchErr.TheVariants as fetch
use Rattle.ov_fetch.specs.Extents.{page_bytes}
use Rattle.ov_read.specs.OfWorld.{IsSpared}
use Rattle.law_room.specs.Room.{Entry, IsWithin, Made}
use Rattle.law_room.proofs.Room.{bare_is_licensed, full_is_licensed, passes_is_licensed, within_made, within_recorded}
use Rattle.law_steps.specs.Turns.{IsPlanSeen, IsSeenTurn}
use Rattle.law_steps.proofs.Finding.{plan_seen, seen_turn}
use Rattle.ov_migrate.specs.declared.step.Step.{Step}
use Rattle.ov_migrate.specs.declared.step.Step.TheVariants as step
use Rattle.ov_migrate.specs.Steps.{IsCopyMove, IsNextOf, IsReadyStep, RefusesStep}
use Rattle.law_steps.specs.Turns.{running}
use Rattle.ov_store.specs.declared.step_errors.StepErr.{StepErr}
use Rattle.ov_store.specs.declared.step_errors.StepErr.TheVariants as why
use Rattle.ov_store.specs.declared.stepping.Stepped.{Stepped}
use Rattle.ov_store.specs.declared.stepping.Stepped.TheVariants as stepped
use Rattle.ov_store.specs.Changes.{IsReady}
use Rattle.ov_store.specs.Stepping.{HasNext, IsAnswer, IsNext, IsStepLack, IsStepped, IsStepSpared, IsUnstepped, IsWanting, ends, ends_in, flip_answer, is_last, of_looking, of_making, runs_here, runs_in}
use Rattle.ov_store.specs.Worlds.{and_made}
use Rattle.ov_store.proofs.Fitting.{sees}
use Rattle.ov_store.proofs.Readying.{rose_later}

-- ---- the World's next step

one_move : (a b : Move) → Some a ≡ Some b → a ≡ b
one_move a b e = ap (λ o. elim o as (λ _. Move) [ None ↦ a | Some x ↦ x ]) e

module _ (w : World) where
  pub copy_brings : (b : Brought) → IsNextOf w (Some (step.Copy b)) → (m : Move) → next_step w ≡ Some m → Brings m w b
  copy_brings b is m next = subst (λ x. Brings x w b) (one_move is.move m (sym is.next ∙ next)) is.means.1

  pub flip_asks : (cvd : ℕ) → IsNextOf w (Some (step.Flip cvd)) → (m : Move) → next_step w ≡ Some m → Asks m w (says.Flip cvd)
  flip_asks cvd is m next = subst (λ x. Asks x w (says.Flip cvd)) (one_move is.move m (sym is.next ∙ next)) is.means.1

  pub copy_next : (b : Brought) → IsNextOf w (Some (step.Copy b)) → HasNext w
  copy_next b is = (is.move, is.next)

  pub flip_next : (cvd : ℕ) → IsNextOf w (Some (step.Flip cvd)) → HasNext w
  flip_next cvd is = (is.move, is.next)

  copied : (m : Move) → IsCopyMove m → IsAnswer w (Some m) stepped.Copied
  copied (Init name schema rows) is = absurd is
  copied (Commit cvd parents message added rows) is = absurd is
  copied (BeginPlan cvd p q) is = absurd is
  copied (Copy cvd) is = refl
  copied (Flip cvd) is = absurd is
  copied (Drop cvd) is = absurd is
  copied Checkpoint is = absurd is

  pub copy_answers : (b : Brought) → IsNextOf w (Some (step.Copy b)) → IsAnswer w (next_step w) stepped.Copied
  copy_answers b is = subst (λ o. IsAnswer w o stepped.Copied) (sym is.next) (copied is.move is.means.0)

  flip_is : (cvd : ℕ) → IsNextOf w (Some (step.Flip cvd)) → next_step w ≡ Some (Flip cvd)
  flip_is cvd is = is.next ∙ ap Some is.means.0

-- ---- the last flip

last_by : (plan : Plan) → is_some (next_target plan) ≡ nat_lt (plan.at + 1) (length plan.targets)
last_by plan = by (nat_lt (plan.at + 1) (length plan.targets))
  where
    by : (b : Bool) → is_some (if b then Some (record plan { at = plan.at + 1; copied = [] }) else None) ≡ b
    by true = refl
    by false = refl

-- the dataset after its flip
flipped_found : (number : ℕ) (sets : List Dataset) (d : Dataset) → ((x : Dataset) → (flipped x).cvd.number ≡ x.cvd.number) → first_set (numbered number) sets ≡ Some d
    → first_set (numbered number) (change number flipped sets) ≡ Some (flipped d)
flipped_found number [] d keeps is = absurd cc
flipped_found number (x ∷ sets) d keeps is = by (x.cvd.number == number) refl is (flipped_found number sets d keeps)
  where
    by : (b : Bool) → (x.cvd.number == number) ≡ b → (if b then Some x else first_set (numbered number) sets) ≡ Some d
        → (first_set (numbered number) sets ≡ Some d → first_set (numbered number) (change number flipped sets) ≡ Some (flipped d))
        → first_set (numbered number) ((if b then flipped x else x) ∷ change number flipped sets) ≡ Some (flipped d)
    by true here e later =
        let same : x ≡ d = ap (λ o. elim o as (λ _. Dataset) [ None ↦ x | Some y ↦ y ]) e
        in ap (λ n. if n == number then Some (flipped x) else first_set (numbered number) (change number flipped sets)) (keeps x)
        ∙ ap (λ b. if b then Some (flipped x) else first_set (numbered number) (change number flipped sets)) here
        ∙ ap (λ y. Some (flipped y)) same
    by false here e later =
        ap (λ b. if b then Some x else first_set (numbered number) (change number flipped sets)) here ∙ later e

keeps_number : (d : Dataset) (plan : Option Plan) → (flipped_by d plan).cvd.number ≡ d.cvd.number
keeps_number d None = refl
keeps_number d (Some plan) = refl

module _ (w : World) (held : Held) (s : State) (at : IsAtWorld w held s) (cvd : ℕ) (ready : IsReadyStep held.numbers (step.Flip cvd)) where
  turn : IsSeenTurn w (page_bytes s) ready.s
  turn = seen_turn w held.numbers (page_bytes s) ready.s at.stands.stands.reached (sees w held s at) ready.turn.first

  plan_is : IsPlanSeen ready.s turn.set turn.plan
  plan_is = plan_seen w (page_bytes s) ready.s turn.set turn.plan turn.of_world turn.turn.runs

  number_is : cvd ≡ turn.set.cvd.number
  number_is = ready.is ∙ ap (λ x. x.number) turn.of_world.shows

  after : first_set (numbered cvd) (moved (Flip cvd) w).sets ≡ Some (flipped turn.set)
  after =
      flipped_found cvd w.sets turn.set (λ x. keeps_number x x.plan)
      (ap (λ n. first_set (numbered n) w.sets) number_is ∙ turn.turn.found)

  runs_after : runs_in (moved (Flip cvd) w) cvd ≡ nat_lt (turn.plan.at + 1) (length turn.plan.targets)
  runs_after = ap runs_here after ∙ ap (λ o. is_some (flipped_by turn.set o).plan) turn.turn.runs ∙ last_by turn.plan

  ends_is : ends held.numbers ≡ not (nat_lt (turn.plan.at + 1) (length turn.plan.targets))
  ends_is =
      ap ends_in ready.turn.first ∙ ap is_last plan_is.is
      ∙ (λ i. not (nat_lt (plan_is.at i + 1) ((ap length plan_is.targets ∙ length-map turn.plan.targets (shown_target turn.set)) i)))

  pub flip_answers : IsNextOf w (Some (step.Flip cvd)) → IsAnswer w (next_step w) (flip_answer (ends held.numbers))
  flip_answers is =
      subst (λ o. IsAnswer w o (flip_answer (ends held.numbers))) (sym (flip_is w cvd is))
      (ap flip_answer (ends_is ∙ ap not (sym runs_after)))

-- ---- how a flip is answered

pub flip_event : (cvd : ℕ) → cvd < 2 ^ 32 → IsEvent (says.Flip cvd)
unfolding IsEvent
flip_event cvd low = low

pub flip_some : (last : Bool) → flip_answer last ≡ stepped.Nothing → ⊥
flip_some true is = cc
flip_some false is = cc

pub flip_done : (t : State) (old new : Held) (cvd : ℕ) → IsNext old.numbers t (step.Flip cvd) → IsRecorded old new (says.Flip cvd) → IsStepped t old new (flip_answer (ends old.numbers))
flip_done t old new cvd next made = by (ends old.numbers) refl
  where
    by : (last : Bool) → ends old.numbers ≡ last → IsStepped t old new (flip_answer last)
    by true is = record { cvd = cvd; next = next; made = made; last_is = is }
    by false is = record { cvd = cvd; next = next; made = made; last_is = is }

-- ---- one step less

plan_each : {S T : Type 0} (g : S → T) (plan : Option (PlanNumbers S)) → plan_steps (each_plan g plan) ≡ plan_steps plan
plan_each g None = refl
plan_each g (Some plan) = refl

sets_each : {L M S T : Type 0} (f : L → M) (g : S → T) (sets : List (SetNumbers L S)) → steps_of (map (each_set f g) sets) ≡ steps_of sets
sets_each f g [] = refl
sets_each f g (d ∷ sets) =
    sum_by-cons (λ x. plan_steps x.plan) (each_set f g d) (map (each_set f g) sets)
    ∙ (λ i. plan_each g d.plan i + sets_each f g sets i)
    ∙ sym (sum_by-cons (λ x. plan_steps x.plan) d sets)

left_here : (w : World) (held : Held) (s : State) → IsAtWorld w held s → steps_left held.numbers ≡ model.steps_left w
left_here w held s at =
    sym (sets_each (readings_of s.tape.disk.pages.bytes).list (readings_of s.tape.disk.pages.bytes).segment held.numbers.sets)
    ∙ ap (λ n. steps_left n) (sees w held s at) ∙ sets_each Some Some (shown w).sets ∙ all_left w at.stands.stands.reached

pub one_less : (w : World) (m : Move) (old new : Held) (s t u : State) → IsAtWorld w old s → next_step w ≡ Some m → IsAtNext (moved m w) new t u
    → steps_left new.numbers + 1 ≡ steps_left old.numbers
one_less w m old new s t u at next after =
    let sound : IsSound w = reached_sound w at.stands.stands.reached
    in ap (λ n. n + 1) (left_here (moved m w) new u after.at) ∙ one_step_less w m next sound.numbered sound.run sound.pieces ∙ sym (left_here w old s at)

-- ---- why no step was taken

pub look_unstepped : (held : Held) (s t : State) (e : FetchErr) → (e ≡ fetch.Host → Rose s.faults t.faults) → (s.tells ≡ true → RefusesStep e (page_bytes s) held.numbers)
    → IsUnstepped held s t (of_looking e)
look_unstepped held s t fetch.Host rose refuses = rose refl
look_unstepped held s t fetch.Memory rose refuses = tt
look_unstepped held s t (fetch.Damaged page) rose refuses = (refl, refuses)

pub look_spared : (e : FetchErr) → IsSpared e → IsStepSpared (of_looking e)
look_spared fetch.Host spared = tt
look_spared fetch.Memory spared = tt
look_spared (fetch.Damaged page) spared = absurd spared

pub look_wants : (w : World) (e : FetchErr) → IsWanting w (of_looking e)
look_wants w fetch.Host = tt
look_wants w fetch.Memory = tt
look_wants w (fetch.Damaged page) = tt

pub look_lacks : (entry : Entry) (past : List Made) (m : Move) (w : World) (e : FetchErr) → IsStepLack entry past m w (of_looking e)
look_lacks entry past m w fetch.Host = tt
look_lacks entry past m w fetch.Memory = tt
look_lacks entry past m w (fetch.Damaged page) = tt

-- it was no read
pub made_spared : (e : ChangeErr) → IsStepSpared (of_making e)
made_spared off.Host = tt
made_spared off.Memory = tt
made_spared (off.Full pages) = tt
made_spared off.JournalFull = tt

pub made_wants : (w : World) (e : ChangeErr) → HasNext w → IsWanting w (of_making e)
made_wants w off.Host next = tt
made_wants w off.Memory next = tt
made_wants w (off.Full pages) next = next
made_wants w off.JournalFull next = next

pub host_made : (e : ChangeErr) → of_making e ≡ why.Host → e ≡ off.Host
host_made off.Host is = refl
host_made off.Memory is = absurd cc
host_made (off.Full pages) is = absurd cc
host_made off.JournalFull is = absurd cc

module _ (held : Held) (s t u : State) (kept : s.faults ≤ t.faults) where
  pub copy_unstepped : (b : Brought) (e : ChangeErr) → IsNext held.numbers s (step.Copy b) → IsWhy e held b t u → IsUnstepped held s u (of_making e)
  copy_unstepped b off.Host next is = rose_later s.faults t.faults u.faults kept is
  copy_unstepped b off.Memory next is = tt
  copy_unstepped b (off.Full pages) next is = record { brought = b; next = next; full = is }
  copy_unstepped b off.JournalFull next is = inl (record { brought = b; next = next; runs = is.0; passes = is.1 })

  pub flip_unstepped : (cvd : ℕ) (e : ChangeErr) → IsNext held.numbers s (step.Flip cvd) → IsWhyNotRecorded e held (says.Flip cvd) t u → IsUnstepped held s u (of_making e)
  flip_unstepped cvd off.Host next is = rose_later s.faults t.faults u.faults kept is
  flip_unstepped cvd off.Memory next is = tt
  flip_unstepped cvd (off.Full pages) next is = absurd is
  flip_unstepped cvd off.JournalFull next is = inr (record { cvd = cvd; next = next; passes = is })

module _ (entry : Entry) (past : List Made) (held : Held) (m : Move) (w : World) (within : IsWithin entry past held) (t u : State) where
  pub copy_lacks : (b : Brought) (e : ChangeErr) → IsReady b held → Brings m w b → IsWhy e held b t u → IsStepLack entry past m w (of_making e)
  copy_lacks b off.Host ready brings is = tt
  copy_lacks b off.Memory ready brings is = tt
  copy_lacks b (off.Full pages) ready brings is = full_is_licensed entry past held m w b pages within ready.unplaced brings is
  copy_lacks b off.JournalFull ready brings is = passes_is_licensed entry past held m w b within ready.unplaced brings is.1

  pub flip_lacks : (cvd : ℕ) (e : ChangeErr) → Asks m w (says.Flip cvd) → IsWhyNotRecorded e held (says.Flip cvd) t u → IsStepLack entry past m w (of_making e)
  flip_lacks cvd off.Host asks is = tt
  flip_lacks cvd off.Memory asks is = tt
  flip_lacks cvd (off.Full pages) asks is = absurd is
  flip_lacks cvd off.JournalFull asks is = bare_is_licensed entry past held m w (says.Flip cvd) within tt asks is
