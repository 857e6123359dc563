-- What `step` does.
--     ends n      the plan whose turn it is has one target left
--     IsNext n t step      it is the step that is next
--     IsCopyMade, IsFlipMade      what was done
--     IsStepped old new t stepped      so it was answered
--     IsUnstepped held old new why      why no step was taken
--     IsAnswer w step stepped      how the World's next step is answered
--     IsStepLack entry past step w why      where room may be wanting for it
use Rattle.std.specs.Prelude.{◌≡◌, ◌⊎◌, ℕ, ◌+◌, Bool, true, false, not, nat_lt, is_some, if◌then◌else◌, List, [], length, Option, Some, None}
use Rattle.ov_host.specs.declared.area.Area.TheVariants.{Pages}
use Rattle.ov_host.specs.declared.area.Extent.{Extent}
use Rattle.ov_host.specs.Host.{Rose, State}
use Rattle.ov_event.specs.declared.event.Event.TheVariants as says
use Rattle.ov_model.specs.Moves.{Move, Init, Commit, BeginPlan, Copy, Flip, Drop, Checkpoint, moved, numbered}
use Rattle.ov_model.specs.Steps.{next_step}
use Rattle.ov_model.specs.World.{Dataset, World, first_set}
use Rattle.ov_catalog.specs.Extents.{live}
use Rattle.ov_catalog.specs.Numbers.{Numbers, PlanNumbers}
use Rattle.ov_core.specs.declared.brought.Brought.{Brought}
use Rattle.ov_core.specs.declared.errors.ChangeErr.{ChangeErr}
use Rattle.ov_core.specs.declared.errors.ChangeErr.TheVariants as change
use Rattle.ov_core.specs.Held.{Held}
use Rattle.ov_core.specs.Rooms.{HaveRuns, IsFull, IsMade, IsRecorded, PassesJournal}
use Rattle.ov_fetch.specs.declared.errors.FetchErr.{FetchErr}
use Rattle.ov_fetch.specs.declared.errors.FetchErr.TheVariants as fetch
use Rattle.ov_fetch.specs.Extents.{page_bytes}
use Rattle.law_room.specs.Room.{Entry, Made, LacksRecord, LacksRun}
use Rattle.ov_migrate.specs.declared.step.Step.{Step}
use Rattle.ov_migrate.specs.declared.step.Step.TheVariants as step
use Rattle.ov_migrate.specs.Steps.{IsReadyStep, IsTestedStep, RefusesStep}
use Rattle.law_steps.specs.Turns.{running}
use Rattle.ov_store.specs.declared.step_errors.StepErr.{StepErr}
use Rattle.ov_store.specs.declared.step_errors.StepErr.TheVariants as why
use Rattle.ov_store.specs.declared.stepping.Stepped.{Stepped}
use Rattle.ov_store.specs.declared.stepping.Stepped.TheVariants as stepped
use Rattle.ov_store.specs.Committing.{Set}

abbrev pub of_looking : FetchErr → StepErr
of_looking fetch.Host = why.Host
of_looking fetch.Memory = why.Memory
of_looking (fetch.Damaged page) = why.Damaged Pages page

abbrev pub of_making : ChangeErr → StepErr
of_making change.Host = why.Host
of_making change.Memory = why.Memory
of_making (change.Full pages) = why.Full pages
of_making change.JournalFull = why.JournalFull

-- ---- the last flip of a plan

abbrev pub is_last : Option (PlanNumbers Extent) → Bool
is_last None = false
is_last (Some plan) = not (nat_lt (plan.at + 1) (length plan.targets))

abbrev pub ends_in : Option Set → Bool
ends_in None = false
ends_in (Some s) = is_last s.plan

-- the plan whose turn it is has one target left
abbrev pub ends : Numbers Extent Extent → Bool
ends n = ends_in (running n)

abbrev pub flip_answer : Bool → Stepped
flip_answer last = if last then stepped.Finished else stepped.Flipped

-- ---- what was done

-- a step that is ready, and where the bytes are told the one that they ask for
pub record IsNext (n : Numbers Extent Extent) (t : State) (taken : Step) : Type 0 where
  pub ready : IsReadyStep n taken
  pub tested : t.tells ≡ true → IsTestedStep (page_bytes t) n taken

pub record IsCopyMade (t : State) (old new : Held) : Type 0 where
  pub brought : Brought
  pub next : IsNext old.numbers t (step.Copy brought)
  pub made : IsMade old new brought

pub record IsFlipMade (last : Bool) (t : State) (old new : Held) : Type 0 where
  pub cvd : ℕ
  pub next : IsNext old.numbers t (step.Flip cvd)
  pub made : IsRecorded old new (says.Flip cvd)
  pub last_is : ends old.numbers ≡ last

abbrev pub IsStepped : State → Held → Held → Stepped → Type 0
IsStepped t old new stepped.Nothing = (running old.numbers ≡ None) × (new ≡ old)
IsStepped t old new stepped.Copied = IsCopyMade t old new
IsStepped t old new stepped.Flipped = IsFlipMade false t old new
IsStepped t old new stepped.Finished = IsFlipMade true t old new

-- ---- why not

pub record FindsNoRun (t : State) (held : Held) (pages : ℕ) : Type 0 where
  pub brought : Brought
  pub next : IsNext held.numbers t (step.Copy brought)
  pub full : IsFull (live held.numbers) brought.list.items brought.segment.items pages

pub record CopyPasses (t : State) (held : Held) : Type 0 where
  pub brought : Brought
  pub next : IsNext held.numbers t (step.Copy brought)
  pub runs : HaveRuns (live held.numbers) brought.list.items brought.segment.items
  pub passes : PassesJournal held brought.event

pub record FlipPasses (t : State) (held : Held) : Type 0 where
  pub cvd : ℕ
  pub next : IsNext held.numbers t (step.Flip cvd)
  pub passes : PassesJournal held (says.Flip cvd)

abbrev pub IsUnstepped : Held → State → State → StepErr → Type 0
IsUnstepped held old new why.Host = Rose old.faults new.faults
IsUnstepped held old new why.Memory = Unit {0}
IsUnstepped held old new (why.Damaged area at) =
    (area ≡ Pages) × (old.tells ≡ true → RefusesStep (fetch.Damaged at) (page_bytes old) held.numbers)
IsUnstepped held old new (why.Full pages) = FindsNoRun old held pages
IsUnstepped held old new why.JournalFull = CopyPasses old held ⊎ FlipPasses old held

-- ---- at a World

abbrev pub runs_here : Option Dataset → Bool
runs_here None = false
runs_here (Some d) = is_some d.plan

-- a plan of the dataset with this number runs
abbrev pub runs_in : World → ℕ → Bool
runs_in w cvd = runs_here (first_set (numbered cvd) w.sets)

-- A step is a copy or a flip. A flip is the last one where no plan of its dataset runs afterwards.
abbrev pub IsAnswer : World → Option Move → Stepped → Type 0
IsAnswer w None s = s ≡ stepped.Nothing
IsAnswer w (Some (Init name schema rows)) s = ⊥
IsAnswer w (Some (Commit cvd parents message added rows)) s = ⊥
IsAnswer w (Some (BeginPlan cvd p q)) s = ⊥
IsAnswer w (Some (Copy cvd)) s = s ≡ stepped.Copied
IsAnswer w (Some (Flip cvd)) s = s ≡ flip_answer (not (runs_in (moved (Flip cvd) w) cvd))
IsAnswer w (Some (Drop cvd)) s = ⊥
IsAnswer w (Some Checkpoint) s = ⊥

-- nothing is damaged
abbrev pub IsStepSpared : StepErr → Type 0
IsStepSpared (why.Damaged area at) = ⊥
IsStepSpared why.Host = Unit {0}
IsStepSpared why.Memory = Unit {0}
IsStepSpared (why.Full pages) = Unit {0}
IsStepSpared why.JournalFull = Unit {0}

abbrev pub HasNext : World → Type 0
HasNext w = (m : Move) × (next_step w ≡ Some m)

-- room is wanting only for a step that is next
abbrev pub IsWanting : World → StepErr → Type 0
IsWanting w (why.Full pages) = HasNext w
IsWanting w why.JournalFull = HasNext w
IsWanting w why.Host = Unit {0}
IsWanting w why.Memory = Unit {0}
IsWanting w (why.Damaged area at) = Unit {0}

abbrev pub IsStepLack : Entry → List Made → Move → World → StepErr → Type 0
IsStepLack entry past m w (why.Full pages) = LacksRun entry past m w pages
IsStepLack entry past m w why.JournalFull = LacksRecord entry past m w
IsStepLack entry past m w why.Host = Unit {0}
IsStepLack entry past m w why.Memory = Unit {0}
IsStepLack entry past m w (why.Damaged area at) = Unit {0}
