-- Migration steps: those behind a reply, and those of a `migrate`.
--     TakesNoStep steps n      so many steps are none: none is asked for, or no plan runs
--     begins_plan n command, line_begins n line      a plan begins by it, as far as the numbers say
--     NoneBehind steps n line      no step comes behind this line
--     IsStepDamaged steps held s page      what a step that was asked for reads is damaged
--     by_step stepped      what a step comes to: whether one was taken, or why the run ends
--     LacksRoom w held what      a step is next, and there may be no room for it
--     IsStep w result ..      where the store is at a World: a step was taken, or none was, or the run ends in one
--     IsOver left v held lacks      why no more come: all were taken, no plan runs, or there may be no room for the next
--     IsRan n w result ..      of up to n steps so many were taken, and why no more; or the run ends in one
--     migrated ran left      what a `migrate` tells of them
use Rattle.std.specs.Prelude.{◌≡◌, ◌⊎◌, ◌≤◌, ◌+◌, ℕ, suc, Bool, true, false, List, Option, None, Some, Result, Ok, Err}
use Rattle.ov_host.specs.declared.area.Extent.{Extent}
use Rattle.ov_host.specs.Host.{State}
use Rattle.ov_host.specs.Stops.{Only}
use Rattle.ov_catalog.specs.Numbers.{Numbers}
use Rattle.ov_core.specs.AtWorld.{IsEither}
use Rattle.ov_core.specs.Held.{Held}
use Rattle.ov_fetch.specs.declared.errors.FetchErr.TheVariants as fetch
use Rattle.ov_fetch.specs.Extents.{page_bytes}
use Rattle.law_room.specs.Room.{Entry, IsWithin, LacksRecord, LacksRun, Made}
use Rattle.law_runs.specs.Moving.{IsMoved}
use Rattle.law_runs.specs.Stepping.{IsStepping}
use Rattle.law_runs.specs.Stops.{printed_of}
use Rattle.law_steps.specs.Turns.{running}
use Rattle.ov_migrate.specs.Steps.{RefusesStep}
use Rattle.ov_model.specs.Line.{Line, Asks}
use Rattle.ov_model.specs.Moves.{Move, moved}
use Rattle.ov_model.specs.Steps.{next_step}
use Rattle.ov_model.specs.World.{World}
use Rattle.ov_model.specs.declared.refusal.Refusal.TheVariants as no
use Rattle.ov_model.specs.declared.reply.Reply.{Reply}
use Rattle.ov_model.specs.declared.reply.Reply.TheVariants as says
pub use Rattle.ov_session.specs.Reads.{begins_plan}
use Rattle.ov_session.specs.declared.errors.EndErr.{EndErr}
use Rattle.ov_session.specs.declared.errors.EndErr.TheVariants as ending
use Rattle.ov_session.specs.declared.stepping.Lack.{Lack}
use Rattle.ov_session.specs.declared.stepping.Lack.TheVariants as lack
use Rattle.ov_session.specs.declared.stepping.Ran.{Ran}
use Rattle.ov_session.specs.declared.stepping.Turn.{Turn}
use Rattle.ov_session.specs.declared.stepping.Turn.TheVariants as turn
use Rattle.ov_store.specs.declared.step_errors.StepErr.{StepErr}
use Rattle.ov_store.specs.declared.step_errors.StepErr.TheVariants as off
use Rattle.ov_store.specs.declared.stepping.Stepped.{Stepped}
use Rattle.ov_store.specs.declared.stepping.Stepped.TheVariants as stepped

abbrev pub TakesNoStep : ℕ → Numbers Extent Extent → Type 0
TakesNoStep steps n = (steps ≡ 0) ⊎ (running n ≡ None)

-- a line by its command; a comment and a refusal begin none
abbrev pub line_begins : Numbers Extent Extent → Line → Bool
line_begins n (Asks command) = begins_plan n command
line_begins n _ = false

-- none is asked for, or no plan runs and the line begins none
abbrev pub NoneBehind : ℕ → Numbers Extent Extent → Line → Type 0
NoneBehind steps n line = (steps ≡ 0) ⊎ ((running n ≡ None) × (line_begins n line ≡ false))

-- a step that meets damage leaves the store as it was: so what is kept at the end is what it met
pub record IsStepDamaged (steps : ℕ) (held : Held) (s : State) (page : ℕ) : Type 0 where
  pub asked : 1 ≤ steps
  pub refuses : s.tells ≡ true → RefusesStep (fetch.Damaged page) (page_bytes s) held.numbers

abbrev pub by_step : Result Stepped StepErr → Result Turn EndErr
by_step (Ok stepped.Nothing) = Ok turn.Idle
by_step (Ok stepped.Copied) = Ok turn.Taken
by_step (Ok stepped.Flipped) = Ok turn.Taken
by_step (Ok stepped.Finished) = Ok turn.Taken
by_step (Err (off.Full pages)) = Ok (turn.Lacks (lack.Run pages))
by_step (Err off.JournalFull) = Ok (turn.Lacks lack.Record)
by_step (Err off.Host) = Err ending.Host
by_step (Err off.Memory) = Err ending.Memory
by_step (Err (off.Damaged area at)) = Err (ending.Damaged area at)

-- ---- at a World

-- there may be no room for this step: no run for its segment, or none for its record
abbrev pub IsLacking : Entry → List Made → Move → World → Lack → Type 0
IsLacking entry past step w (lack.Run pages) = LacksRun entry past step w pages
IsLacking entry past step w lack.Record = LacksRecord entry past step w

-- a step is next, and there may be no room for it
pub record LacksRoom (w : World) (held : Held) (what : Lack) : Type 0 where
  pub step : Move
  pub next : next_step w ≡ Some step
  pub wanting : (entry : Entry) (past : List Made) → IsWithin entry past held → IsLacking entry past step w what

-- the step that is next
pub record IsTaken (w : World) (before now : Held) (old new : State) : Type 0 where
  pub step : Move
  pub next : next_step w ≡ Some step
  pub made : IsMoved step w before now old new

-- nothing was done, and the host was at most looked at
pub record IsNotTaken (reason : Type 0) (before now : Held) (old new : State) : Type 0 where
  pub held : now ≡ before
  pub told : new.tells ≡ old.tells
  pub tape : new.tape ≡ old.tape
  pub because : reason

-- the step was made then, or it wasn't
pub record IsBrokenOff (w : World) (old new : State) : Type 0 where
  pub step : Move
  pub next : next_step w ≡ Some step
  pub stops : Only old.tape new.tape (IsEither w (moved step w) (printed_of old))

abbrev pub IsStep : World → Result Turn EndErr → Held → Held → State → State → Type 0
IsStep w (Ok turn.Taken) before now old new = IsTaken w before now old new
IsStep w (Ok turn.Idle) before now old new = IsNotTaken (next_step w ≡ None) before now old new
IsStep w (Ok (turn.Lacks what)) before now old new = IsNotTaken (LacksRoom w before what) before now old new
IsStep w (Err why) before now old new = IsBrokenOff w old new

-- ---- several

-- so many of them were still asked for
abbrev pub IsOver : ℕ → World → Held → Option Lack → Type 0
IsOver left v held None = (left ≡ 0) ⊎ (next_step v ≡ None)
IsOver left v held (Some what) = (1 ≤ left) × LacksRoom v held what

-- so many of up to n steps were taken, up to a World
pub record IsSteppedBy (n : ℕ) (w : World) (ran : Ran) (before now : Held) (old new : State) : Type 0 where
  pub left : ℕ
  pub count : ran.taken + left ≡ n
  pub world : World
  pub stepping : IsStepping n left w world before now old new
  pub over : IsOver left world now ran.lacks

-- some were taken, and the next one was broken off
pub record IsCutOff (n : ℕ) (w : World) (before : Held) (old new : State) : Type 0 where
  pub left : ℕ
  pub world : World
  pub held : Held
  pub mid : State
  pub stepping : IsStepping n (suc left) w world before held old mid
  pub broken : IsBrokenOff world mid new

abbrev pub IsRan : ℕ → World → Result Ran EndErr → Held → Held → State → State → Type 0
IsRan n w (Ok ran) before now old new = IsSteppedBy n w ran before now old new
IsRan n w (Err why) before now old new = IsCutOff n w before old new

-- how many were taken and how many are left; as a refusal where there was no room for the next one
abbrev pub told_by : ℕ → ℕ → Option Lack → Reply
told_by taken left None = says.Migrate taken left
told_by taken left (Some (lack.Run pages)) = says.Refused (no.NoRun pages (Some (taken, left)))
told_by taken left (Some lack.Record) = says.Refused (no.JournalFull (Some (taken, left)))

abbrev pub migrated : Ran → ℕ → Reply
migrated ran left = told_by ran.taken left ran.lacks
